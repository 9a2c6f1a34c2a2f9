-- The names of other crates that more than one file of these proofs uses.
pub use Rattle.clients.specs.Clients.{clients_after, id_member, secret_member, redirects_member, one_or_two}
pub use Rattle.clients.specs.Numbers.{number_among, IsIndex}
pub use Rattle.clients.specs.Registry.{data_of, registry_of}
pub use Rattle.clients.specs.RegistryLaws.{redirect-among, id-read, secret-read, redirects_member-read, registry-read}
pub use Rattle.registry_json.specs.declared.fault.ConfigFault.TheVariants.{NotJson, Memory, OutOfRange}
pub use Rattle.serde_json.specs.View.{items_view, view}
pub use Rattle.serde_json.specs.declared.value.Value.{Value}
pub use Rattle.std.proofs.lemmas.Str.{IsUtf8-from_is_utf8, is_utf8-from_IsUtf8, IsUtf8-string_bytes}
pub use Rattle.std.specs.BTreeMap.{BTreeMap, Updates}
pub use Rattle.std.specs.List.{list_any, position_from}
pub use Rattle.std.specs.Str.{IsUtf8, is_utf8, bytes_eq}
pub use Rattle.std.specs.String.{string_cmp}
