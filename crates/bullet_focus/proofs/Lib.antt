pub mod Fronts
pub mod LevelLaws
pub mod GoalLaws
