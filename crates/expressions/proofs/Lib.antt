-- Laws of the words over operands, of attributes, and of each phrase of an expression.
pub mod QuantifierLaws
pub mod OperatorLaws
pub mod BracketLaws
pub mod QuantityLaws
