-- What lemmas of this crate name of the crates below, and of its own definitions.
pub use Rattle.cfs_base.specs.declared.identifier.Puid.{Puid}
pub use Rattle.cfs_base.specs.declared.identifier.Tuid.{Tuid}
pub use Rattle.cfs_base.specs.declared.kind.Mode.{Mode}
pub use Rattle.cfs_base.specs.declared.kind.Mode.TheVariants.{Reading, Writing}
pub use Rattle.open_table.specs.Grants.{Table, collides, conflicts, fault_by, fault_of, first_grant, session_grant, grants_of, is_session_grant, is_grant_table, mode_against, open_mode, none_collide, tuids_differ, without_grant, without_session}
pub use Rattle.open_table.specs.Model.{is_writing, shown, table_of}
pub use Rattle.open_table.specs.Parts.{IsTied, Modes, same_key}
pub use Rattle.open_table.specs.declared.grant.OpenGrant.{OpenGrant}
pub use Rattle.std.proofs.lemmas.Bool.{and_parts, or_parts}
pub use Rattle.std.proofs.lemmas.Bool.Decides.{nat_tests}
pub use Rattle.std.proofs.lemmas.Fn.{filter_same}
pub use Rattle.std.proofs.lemmas.Grind.{common_steps}
pub use Rattle.std.proofs.lemmas.Iterator.{YieldsList-from_slice}
pub use Rattle.std.proofs.lemmas.Iterator.Search.{find_from_yields_List}
pub use Rattle.std.proofs.lemmas.List.Elements.{filter-append}
pub use Rattle.std.specs.Bool.{then_some}
pub use Rattle.std.specs.HashMap.{Updates, get}
pub use Rattle.std.specs.List.{list_all, list_any}
pub use Rattle.std.specs.Prelude.{filter, find, nat_le, option_map, slice_get}
pub use Rattle.std.specs.Result.{OnErr, OnOk, is_ok}
pub use Rattle.ufs_model.specs.Identifier.{same_puid, same_tuid}
pub use Rattle.ufs_model.specs.Refusal.{is_locked}
pub use Rattle.ufs_model.specs.State.{State}
pub use Rattle.ufs_model.specs.declared.limits.TheConstants.{MOST_GRANTS}
