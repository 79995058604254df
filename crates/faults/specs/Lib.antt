pub mod RefusalNumbers
pub mod FaultInfos
pub mod Printing
pub mod RefusalOrder
