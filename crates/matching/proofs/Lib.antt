pub mod FuelOfMatch
pub mod Fillings
pub mod Lowerings
pub mod ValuesKept
pub mod ValuesSet
pub mod MatchCalls
