pub use Rattle.command_line.specs.Lines
pub use Rattle.devices.specs.Devices
pub use Rattle.exit_status.specs.Statuses
pub use Rattle.exit_status.specs.Writing
pub use Rattle.listing_printouts.specs.Bounds
pub use Rattle.explain_printouts.specs.Explain
pub use Rattle.graph_printouts.specs.Graphs
pub use Rattle.memory_devices.specs.Faulty
pub use Rattle.printouts.specs.Outcomes
pub use Rattle.lines_of_runs.specs.Plain
pub use Rattle.run_printouts.specs.Run
pub use Rattle.printouts.specs.Schedule
pub use Rattle.lint_text.specs.Printout
pub use Rattle.variants.specs.Texts as VaryTexts
pub use Rattle.written.specs.Written
pub mod Engine
pub mod Naming
pub mod inner
