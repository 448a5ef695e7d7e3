pub mod List
pub mod Buffer
