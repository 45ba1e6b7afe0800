pub mod Explain
pub mod ExplainDocuments
pub mod Objects
