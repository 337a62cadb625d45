pub mod RecordBytes
pub mod PlanBytes
pub mod HeardBytes
pub mod Back
