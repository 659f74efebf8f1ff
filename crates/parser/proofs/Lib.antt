-- From the tokens and the words that the code leaves to the definition's answer.
pub mod QueryLaws
