pub mod Faults
pub mod ProblemTexts
pub mod SolutionTexts
pub mod Texts
