pub mod IndexLaws
pub mod OpeningLaws
pub mod StepLaws
pub mod InsideLaws
pub mod LoopLaws
pub mod CycleLaws
pub mod FuelOfElab
pub mod ConstructorLaws
