-- Laws of the sizes of tables and of the records of relations.
pub mod SizeLaws
pub mod RecordLaws
