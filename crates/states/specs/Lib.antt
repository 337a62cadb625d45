pub mod StateBytes
