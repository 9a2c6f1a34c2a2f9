-- The names of other crates that more than one file of these proofs uses.
pub use Rattle.params.specs.Form.{any_twice, names_of_pairs, texts_of, has_replacement, value_sent, sent, pairs, is_damaged}
pub use Rattle.params.specs.FormLaws.{bytes_eq-sym, same_bytes, any_twice-append}
pub use Rattle.params.specs.Scope.{is_among, mask_of, place_among, is_scope_character, is_scope_token, is_scope_name, IsCatalogue, tokens_of, names_in_mask, scope_mask, scope_text, text_with_name}
pub use Rattle.params.specs.Scope.{name_fault}
pub use Rattle.params.specs.ScopeLaws.{bit_of, bit_of-small, is_some-position_from, list_all-names_of, IsCatalogue-push, scope_mask-within, length-scope_text}
pub use Rattle.std.proofs.Math.Nat.{pow-succ', zero-max}
pub use Rattle.std.proofs.lemmas.Bool.{or_parts, or_left, or_right, or_cases, ne_eqb, or_from, and_parts, and_from, eq-eqb, eqb-true, eqb-false, leb-true}
pub use Rattle.std.proofs.lemmas.Bool.Decides.{Decides-eqb, nat_tests}
pub use Rattle.std.proofs.lemmas.Iterator.{YieldsList, YieldsList-from_slice}
pub use Rattle.std.proofs.lemmas.Iterator.Search.{all_from_yields_List, position_from_yields_List}
pub use Rattle.std.proofs.lemmas.List.{drop-map, take-append-drop, drop_all, map-append, length-map}
pub use Rattle.std.proofs.lemmas.List.Folds.{list_any-append, list_all-append}
pub use Rattle.std.proofs.lemmas.Nat.Bits.{bit_at_or, bit_at_lowest, bit_at-suc, bit_at-zero, same_from_bits}
pub use Rattle.std.proofs.lemmas.Slice.Eq.{starts_is, bytes_eq-Decides}
pub use Rattle.std.specs.BTreeMap.{get_by}
pub use Rattle.std.specs.Cmp.Lexicographic.{pointwise, slice_cmp}
pub use Rattle.std.specs.Cow.{cow_str_bytes}
pub use Rattle.std.specs.Int.{bit_at}
pub use Rattle.std.specs.List.{list_any, position_from, starts_with, list_all, join_with_byte}
pub use Rattle.std.specs.Ordering.{nat_cmp}
pub use Rattle.std.specs.Prelude.{String, bytes_eq, All}
pub use Rattle.std.specs.Str.Iter.{split_steps, split_text, split_has_more, split_pattern}
pub use Rattle.std.specs.Str.Pattern.{FindsText, HasMatch, FindsChar}
