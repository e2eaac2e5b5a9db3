pub mod Fields
pub mod EventRecord
pub mod EndToEnd
pub mod Frame
pub mod OneAnswer
