-- Texts of lists put one element at a time, and bytes counted.
mod Listing
mod Counts
