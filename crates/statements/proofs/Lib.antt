-- Laws of sequences of statements, blocks, and the statements that hold blocks.
pub mod SequenceLaws
pub mod BlockLaws
pub mod CompoundLaws
pub mod ProgramLaws
