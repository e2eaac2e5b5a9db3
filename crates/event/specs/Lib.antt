pub mod Frame
pub mod Fields
pub mod EventRecord
pub mod Look
pub mod EndToEnd
pub mod Refusal4
