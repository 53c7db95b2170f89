use Rattle.std.proofs.Common.{◌≡◌, drop, map, ◌++◌}
use Rattle.trail_text.proofs.Words.{Direct, are_within, event_line, spaced, spell, string_bytes}
use Rattle.trail_text.specs.EventLine as tokens
use Rattle.ufs_model.specs.declared.asked.Event.TheVariants as events
use Rattle.trail_text.proofs.print.print_vanish.Given as goal

-- what is left is still to be put, and decides
abbrev pub invariant-ids : goal.invariant-ids
invariant-ids l =
    (string_bytes l.line ++ spaced (map spell (map (λ id. tokens.To (Direct id)) (drop l.id-index l.ids))) ≡ event_line (events.Vanish l.ids))
    × (are_within (map (λ id. tokens.To (Direct id)) l.ids) ≡ are_within (map (λ id. tokens.To (Direct id)) (drop l.id-index l.ids)))
