-- The names of types and of other crates that more than one file of these definitions uses.
pub use Rattle.registry_json.specs.declared.fault.ConfigFault.{ConfigFault}
pub use Rattle.registry_json.specs.declared.fault.ConfigFault.TheVariants.{OutOfRange, BadShape, Twice, BadRedirect, NotJson, BadScope, Memory}
pub use Rattle.registry_json.specs.declared.fault.Refusal.{Refusal}
pub use Rattle.registry_json.specs.declared.fault.Refusal.TheVariants.{At}
pub use Rattle.registry_json.specs.declared.spot.Spot.{Spot}
pub use Rattle.params.specs.declared.catalogue.CatalogueFault.{CatalogueFault}
pub use Rattle.serde_json.specs.Data.{Data, Items, no_items, item}
pub use Rattle.serde_json.specs.Find.{as_array, get, as_str, as_number, as_u64}
pub use Rattle.std.specs.List.{list_all}
pub use Rattle.std.specs.Option.{ok_or}
