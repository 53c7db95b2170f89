-- What lemmas of this crate name of the crates below, and of its own definitions.
pub use Rattle.cfs_base.specs.declared.identifier.Puid.{Puid}
pub use Rattle.cfs_base.specs.declared.kind.Kind.{Kind}
pub use Rattle.puid_space.specs.Cells.{IsTable, listed}
pub use Rattle.puid_space.specs.Directory.{Computes, Listing, blocks_rise, first_in, has_root_in, is_listing, kept_by, directory_kind, number_of, taken_by, without_id}
pub use Rattle.puid_space.specs.Kinds.{object_kind, kinds_in}
pub use Rattle.puid_space.specs.declared.directory.Cell.{Cell}
pub use Rattle.puid_space.specs.declared.directory.Directory.TheInside.{Inside}
pub use Rattle.std.proofs.lemmas.Bool.{and_parts}
pub use Rattle.std.proofs.lemmas.Bool.Decides.{nat_tests}
pub use Rattle.std.proofs.lemmas.List.{drop-drop, drop-set-lt, get_or-drop, get_or_default, length-replicate, length-set, map-append, take-set, take_all}
pub use Rattle.std.proofs.lemmas.List.Elements.{filter-append}
pub use Rattle.std.proofs.lemmas.Option.{same_Some}
pub use Rattle.std.specs.BTreeMap.{insert_entry, is_at}
pub use Rattle.std.specs.Bool.{then_some}
pub use Rattle.std.specs.List.{list_all, list_any}
pub use Rattle.std.specs.Map.{keys_of, lookup}
pub use Rattle.std.specs.Ordering.{is_eq, is_lt, match_ordering}
pub use Rattle.std.specs.Prelude.{filter, option_map, ◌==◌}
pub use Rattle.std.specs.declared.cmp.Ordering.TheVariants.{Equal, Greater, Less}
pub use Rattle.ufs_model.specs.Identifier.{is_among, puid_cmp, rises, same_puid}
pub use Rattle.ufs_model.specs.declared.object.Object.{Object}
