pub mod TurnedArcs
pub mod ReversalLaw
pub mod ReversalRows
pub mod ReversalDates
pub mod SameRate
pub mod OneMachine
pub mod ExchangeRows
