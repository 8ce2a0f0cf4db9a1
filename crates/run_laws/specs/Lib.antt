pub mod EndOrder
pub mod DoneRuns
pub mod TurnsLocal
pub mod SealsTold
pub mod CapacitiesStay
pub mod EventsLocal
