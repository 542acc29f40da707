-- What a contract sees of new machines, mergers and settled machines, whichever crate they come from.
pub use Rattle.merge_machine.specs.Limits.{IsMachine, NoMachineFor, numbers_of}
pub use Rattle.merge_machine.specs.Opened.{IsFreshMachine}
pub use Rattle.merge_machine.specs.Kept.{end_names, port_names, closed_names, end_views, closed_views}
pub use Rattle.merge_machine.specs.Machines.{shape_of}
unfoldable pub use Rattle.merge_machine.specs.Machines.{opening}
pub use Rattle.merge_machine.specs.View.{ends_of, journal_of, limit_of, core_of, memory_of, machine_of, guest_count}
pub use Rattle.merge_settle.specs.View.{settled_journal, settled_ports, settled_core}
