pub mod Roster
pub mod Query
pub mod Classification
pub mod Answer
pub mod Page
pub mod AnswerLaws
pub mod PageLaws
pub mod ClassificationLaws
