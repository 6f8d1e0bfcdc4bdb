pub mod Streams
pub mod Plans
pub use Rattle.fault_count.specs.Rose
