-- What the two texts have given at each stage of the join.
pub mod United
