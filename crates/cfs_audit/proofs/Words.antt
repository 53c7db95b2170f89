-- What lemmas of this crate name of the crates below, and of its own definitions.
pub use Rattle.cfs_audit.specs.Verdict.{EndsIn, IsBad, IsFollowed, HasVerdict, IsLastLine, IsUnopened, IsVerdict, root_of}
pub use Rattle.cfs_audit.specs.declared.trail.Verdict.{Verdict}
pub use Rattle.cfs_base.specs.declared.refusal.NoMemory.{NoMemory}
pub use Rattle.std.proofs.lemmas.Bool.{and_from, and_parts, false≢true}
pub use Rattle.std.proofs.lemmas.Grind.{flat_map-append}
pub use Rattle.std.proofs.lemmas.List.{append-nil, append_assoc}
pub use Rattle.std.proofs.lemmas.List.Folds.{list_all-append}
pub use Rattle.std.specs.List.{flat_map, list_all}
pub use Rattle.std.specs.Prelude.{Err, IfOk, Ok, Result, option_and_then, ◌==◌}
pub use Rattle.trail_text.specs.EventLine.{event_line, fits, in_8}
pub use Rattle.trail_text.proofs.Back.{event_no_end, no_event_ends, one_event, one_opening, opening_no_end, status_no_end}
pub use Rattle.trail_text.specs.Read.{IsNoLine, IsNoneOf}
pub use Rattle.trail_text.specs.Trail.{begun, ended, has_no_end, opening_fits, opening_line, status_line}
pub use Rattle.trail_text.specs.declared.ends.Opening.{Opening}
pub use Rattle.ufs_model.proofs.Legal.{replay_from-push}
pub use Rattle.ufs_model.specs.Graph.{fresh_graph}
pub use Rattle.ufs_model.specs.Next.{next}
pub use Rattle.ufs_model.specs.Plain.{Server}
pub use Rattle.ufs_model.specs.State.{State, opening}
pub use Rattle.ufs_model.specs.declared.asked.Event.{Event}
