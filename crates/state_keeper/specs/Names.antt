-- The names of types and of other crates that more than one file of these definitions uses.
pub use Rattle.batch_file.specs.Frames.{recovered}
pub use Rattle.batch_file.specs.declared.device.Device.{Ghosts as Device}
pub use Rattle.consent.specs.History.{Event}
