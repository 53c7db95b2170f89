use Rattle.std.proofs.Common.{◌≡◌, inl, inr, ℕ, ◌+◌, ◌-◌, ◌*◌, ◌<◌, ◌≤◌, ap, arith, subst, sym, Option, Some, None}
use Rattle.std.proofs.Common.{Bool, Result}
use Rattle.std.specs.Option.{option_copied}
use Rattle.std.specs.Prelude.{IfErr, IfOk}
use Rattle.std.proofs.lemmas.Result.{IfErr-weaker, IfOk-weaker}
use Rattle.collector_steps.proofs.Words.{IfSome, IsDamaged, IsScanTrouble, Root, Trouble, block_at, root_spelling}
use Rattle.marking.specs.Leaves.{own_part}
use Rattle.marking.specs.Steps.{step_of}
use Rattle.collector_steps.specs.Scan.{HoldsAny, IsDraftRoot, IsFoundIn, after_drafted, after_own, ids_read}
use Rattle.collector_steps.specs.declared.scan.Found.{Found}
use Rattle.collector_steps.proofs.Places.{draft_alive, draft_sound, drafted_is, no_draft, on_weaker, own_alive}
use Rattle.collector_steps.proofs.Places.{own_is, own_sound}
use Rattle.collector_steps.proofs.scan.read_place.Goals as goal

-- ---- it has no draft

pub returns-in_default-clause-found : goal.returns-in_default-clause-found
returns-in_default-clause-found g c = λ directory s ds i d serves at drafted.
    let old = c.args.disk.now in
    let image = g.D.Disk.content old in
    let id = c.args.first.id in
    let cursor = c.args.first.cursor in
    let bytes = c.read_own.new.into in
    let blocks = g.met.D.Disk.of_blocks old serves.carries.tells.honest in
    let none = no_draft image s id (option_copied c.args.draft) d (ap option_copied c.in_default.is) drafted in
    let from : ℕ → Found → Type 0 = λ n. IsFoundIn image (block_at image id.block) n bytes after_own in
    IfOk-weaker c.read_own.result (from (cursor - own_part))
    (λ found. (ids_read found.step bytes, found.next) ≡ step_of d i cursor)
    (λ found is. own_is g.D.Disk old blocks directory s ds serves id i at cursor bytes found d (inl none) is)
    (subst (λ (n : ℕ). IfOk c.read_own.result (from n)) c.saturating_sub.ensures
    (c.read_own.ensures.found serves.carries.tells (own_alive g.D.Disk old blocks directory s ds serves id i at)))

pub returns-in_default-clause-sound : goal.returns-in_default-clause-sound
returns-in_default-clause-sound g c = λ directory s ds i d serves at drafted.
    let old = c.args.disk.now in
    let honest = serves.carries.tells.honest in
    let id = c.args.first.id in
    let new = c.read_own.new.disk in
    IfErr-weaker c.read_own.result (IsScanTrouble g.D.Disk old new None id.block) (λ error. ¬ IsDamaged error)
    (λ error is. own_sound g.D.Disk old (g.met.D.Disk.of_blocks old honest) directory s ds serves id i at
    (g.met.D.Disk.sized old honest) new error is)
    (c.read_own.ensures.refused None)

-- how far a step goes in its own tree
own_goes : (r : Result Found Trouble) (from cursor : ℕ) → cursor ≤ own_part + from
    → IfOk r (λ found. IfSome found.next (λ next. (own_part + from < next) × (next ≤ 2 * own_part)))
    → IfOk r (λ found. IfSome found.next (λ next. (cursor < next) × (next ≤ 2 * own_part)))
own_goes r from cursor le =
    IfOk-weaker r (λ found. IfSome found.next (λ next. (own_part + from < next) × (next ≤ 2 * own_part)))
    (λ found. IfSome found.next (λ next. (cursor < next) × (next ≤ 2 * own_part)))
    (λ found is. on_weaker found.next (own_part + from) cursor (2 * own_part) (2 * own_part) le (omega arith) is)

pub returns-in_default-clause-on : goal.returns-in_default-clause-on
returns-in_default-clause-on g c =
    own_goes c.read_own.result c.saturating_sub.result c.args.first.cursor (omega (arith, c.saturating_sub.ensures))
    c.read_own.ensures.on

pub returns-in_default-clause-refused : goal.returns-in_default-clause-refused
returns-in_default-clause-refused g c = c.read_own.ensures.refused (option_copied c.args.draft)

-- ---- its draft was read

pub returns-then-first-ge-OWN_PART-clause-found : goal.returns-then-first-ge-OWN_PART-clause-found
returns-then-first-ge-OWN_PART-clause-found g c = λ directory s ds i d serves at drafted.
    let old = c.args.disk.now in
    let image = g.D.Disk.content old in
    let id = c.args.first.id in
    let cursor = c.args.first.cursor in
    let bytes = c.read_own-then-first-ge-OWN_PART.new.into in
    let past : own_part ≤ cursor = omega (arith, c.if-first-ge-OWN_PART.true) in
    let blocks = g.met.D.Disk.of_blocks old serves.carries.tells.honest in
    IfOk-weaker c.read_own-then-first-ge-OWN_PART.result (IsFoundIn image (block_at image id.block) (cursor - own_part) bytes after_own)
    (λ found. (ids_read found.step bytes, found.next) ≡ step_of d i cursor)
    (λ found is. own_is g.D.Disk old blocks directory s ds serves id i at cursor bytes found d (inr past) is)
    (c.read_own-then-first-ge-OWN_PART.ensures.found serves.carries.tells (own_alive g.D.Disk old blocks directory s ds serves id i at))

pub returns-then-first-ge-OWN_PART-clause-sound : goal.returns-then-first-ge-OWN_PART-clause-sound
returns-then-first-ge-OWN_PART-clause-sound g c = λ directory s ds i d serves at drafted.
    let old = c.args.disk.now in
    let honest = serves.carries.tells.honest in
    let id = c.args.first.id in
    let new = c.read_own-then-first-ge-OWN_PART.new.disk in
    IfErr-weaker c.read_own-then-first-ge-OWN_PART.result (IsScanTrouble g.D.Disk old new None id.block) (λ error. ¬ IsDamaged error)
    (λ error is. own_sound g.D.Disk old (g.met.D.Disk.of_blocks old honest) directory s ds serves id i at
    (g.met.D.Disk.sized old honest) new error is)
    (c.read_own-then-first-ge-OWN_PART.ensures.refused None)

pub returns-then-first-ge-OWN_PART-clause-on : goal.returns-then-first-ge-OWN_PART-clause-on
returns-then-first-ge-OWN_PART-clause-on g c =
    own_goes c.read_own-then-first-ge-OWN_PART.result (c.args.first.cursor - own_part) c.args.first.cursor (omega arith) c.read_own-then-first-ge-OWN_PART.ensures.on

pub returns-then-first-ge-OWN_PART-clause-refused : goal.returns-then-first-ge-OWN_PART-clause-refused
returns-then-first-ge-OWN_PART-clause-refused g c =
    c.read_own-then-first-ge-OWN_PART.ensures.refused (option_copied c.args.draft)

-- ---- its draft is read

pub returns-clause-found : goal.returns-clause-found
returns-clause-found g c = λ directory s ds i d serves at drafted.
    let old = c.args.disk.now in
    let image = g.D.Disk.content old in
    let id = c.args.first.id in
    let cursor = c.args.first.cursor in
    let bytes = c.read_draft.new.into in
    let root = c.in-Some.draft.now in
    let less : cursor < own_part = omega (arith, c.if-first-ge-OWN_PART.false) in
    let blocks = g.met.D.Disk.of_blocks old serves.carries.tells.honest in
    let has = subst (λ (o : Option Root). IsDraftRoot image s id o d) (ap option_copied c.in-Some.is) drafted in
    IfOk-weaker c.read_draft.result
    (λ found. (any : Bool) × HoldsAny image (block_at image id.block) any
    × IsFoundIn image (root_spelling root) cursor bytes (after_drafted any) found)
    (λ found. (ids_read found.step bytes, found.next) ≡ step_of d i cursor)
    (λ found is. drafted_is g.D.Disk old blocks directory s ds serves id i at cursor bytes found root d has less is)
    (c.read_draft.ensures.found serves.carries.tells
    (draft_alive g.D.Disk old blocks directory s ds serves id i at root d has)
    (own_alive g.D.Disk old blocks directory s ds serves id i at))

pub returns-clause-sound : goal.returns-clause-sound
returns-clause-sound g c = λ directory s ds i d serves at drafted.
    let old = c.args.disk.now in
    let honest = serves.carries.tells.honest in
    let id = c.args.first.id in
    let root = c.in-Some.draft.now in
    let new = c.read_draft.new.disk in
    let has = subst (λ (o : Option Root). IsDraftRoot (g.D.Disk.content old) s id o d) (ap option_copied c.in-Some.is)
    drafted in
    IfErr-weaker c.read_draft.result (IsScanTrouble g.D.Disk old new (Some root) id.block) (λ error. ¬ IsDamaged error)
    (λ error is. draft_sound g.D.Disk old (g.met.D.Disk.of_blocks old honest) directory s ds serves id i at
    (g.met.D.Disk.sized old honest) root d has new error is)
    c.read_draft.ensures.refused

pub returns-clause-refused : goal.returns-clause-refused
returns-clause-refused g c =
    subst (λ (o : Option Root). IfErr c.read_draft.result
    (IsScanTrouble g.D.Disk c.args.disk.now c.read_draft.new.disk o c.args.first.id.block))
    (sym (ap option_copied c.in-Some.is)) c.read_draft.ensures.refused

pub returns-clause-on : goal.returns-clause-on
returns-clause-on g c =
    let cursor = c.args.first.cursor in
    IfOk-weaker c.read_draft.result (λ found. IfSome found.next (λ next. (cursor < next) × (next ≤ own_part)))
    (λ found. IfSome found.next (λ next. (cursor < next) × (next ≤ 2 * own_part)))
    (λ found is. on_weaker found.next cursor cursor own_part (2 * own_part) (omega arith) (omega arith) is)
    c.read_draft.ensures.on
