-- The names of types and of other crates that more than one file of these definitions uses.
pub use Rattle.registry_json.specs.declared.fault.ConfigFault.{ConfigFault}
pub use Rattle.registry_json.specs.declared.fault.ConfigFault.TheVariants.{OutOfRange, BadShape, Twice, BadRedirect, NotJson, BadScope}
pub use Rattle.registry_json.specs.declared.fault.Refusal.{Refusal}
pub use Rattle.registry_json.specs.declared.fault.Refusal.TheVariants.{At}
pub use Rattle.clients.specs.declared.grant.Grants.{Grants}
pub use Rattle.registry_json.specs.declared.spot.ClientSpot.TheVariants.{Id, Secret, Redirects, Scope, Records}
pub use Rattle.registry_json.specs.declared.spot.Spot.{Spot}
pub use Rattle.registry_json.specs.declared.spot.Spot.TheVariants.{Client, Owners, Scopes}
pub use Rattle.params.specs.Form.{any_twice}
pub use Rattle.params.specs.Scope.{IsCatalogue, name_fault, scope_mask}
pub use Rattle.params.specs.declared.catalogue.CatalogueFault.{CatalogueFault}
pub use Rattle.serde_json.specs.Data.{Data, Items, no_items, item}
pub use Rattle.serde_json.specs.Find.{as_array, get, as_str, as_number, as_u64, as_object}
pub use Rattle.std.specs.List.{list_any, position_from, list_all}
pub use Rattle.std.specs.Option.{option_map_or, ok_or}
pub use Rattle.std.specs.Result.{result_ok}
pub use Rattle.std.specs.Str.{is_utf8}
