-- Laws of tokens, of words written one after the other, of terms, and of lists of them.
pub mod TokenLaws
pub mod WriteLaws
pub mod LeafLaws
pub mod ListLaws
pub mod TermsLaws
pub mod AtomLaws
pub mod PatternLaws
