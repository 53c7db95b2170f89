-- Worked collections: what may vanish, and what must.
use Rattle.std.proofs.Common.{◌≡◌, refl, List, [], ◌∷◌, Some, true, false}
use Rattle.ufs_model.proofs.Words.{Direct, Event, Puid, ids_of, kept, option_map, rooted, word}
use Rattle.rand_chacha.specs.Block.{block_word, column_round, diagonal_round, double_rounds, quarter_round}
use Rattle.rand_core.specs.Steps.{u32_at}
use Rattle.cfs_base.specs.declared.kind.FileKind.TheVariants as kinds
use Rattle.cfs_base.specs.declared.kind.Mode.TheVariants as modes
use Rattle.ufs_model.specs.declared.asked.Request.TheVariants as asks
use Rattle.ufs_model.specs.declared.asked.Reply.TheVariants as replies
use Rattle.ufs_model.specs.declared.asked.Event.TheVariants as events
use Rattle.ufs_model.proofs.Worked.{root, a, b, second, run, is_legal}

-- ---- an index that refers to itself, and is deleted

abbrev itself : List Puid → List Event
itself ids =
    events.Ask 0 (asks.CreateIndex 4 (Direct root) 0) (replies.Id a)
    ∷ events.Ask 0 (asks.Retain (Direct a) 1 a) replies.Done
    ∷ events.Ask 0 (asks.Delete (Direct root) 0) replies.Done
    ∷ events.Began
    ∷ events.Vanish ids
    ∷ events.Finished
    ∷ []

a_cycle_vanishes : option_map (λ s. ids_of s.graph) (run (itself (a ∷ []))) ≡ Some (root ∷ [])
unfolding word u32_at block_word double_rounds diagonal_round column_round quarter_round
a_cycle_vanishes = refl

cut_off_throughout_may_not_stay : is_legal (itself []) ≡ false
unfolding word u32_at block_word double_rounds diagonal_round column_round quarter_round
cut_off_throughout_may_not_stay = refl

the_root_may_not_vanish : is_legal (itself (root ∷ a ∷ [])) ≡ false
unfolding word u32_at block_word double_rounds diagonal_round column_round quarter_round
the_root_may_not_vanish = refl

nothing_vanishes_twice : is_legal (itself (a ∷ a ∷ [])) ≡ false
unfolding word u32_at block_word double_rounds diagonal_round column_round quarter_round
nothing_vanishes_twice = refl

-- ---- the same, but open

abbrev held_open : List Puid → List Event
held_open ids =
    events.Ask 0 (asks.CreateIndex 4 (Direct root) 0) (replies.Id a)
    ∷ events.Ask 0 (asks.OpenFor a modes.Reading) (replies.Grant second)
    ∷ events.Ask 0 (asks.Delete (Direct root) 0) replies.Done
    ∷ events.Began
    ∷ events.Vanish ids
    ∷ []

what_is_open_is_kept : option_map kept (run (held_open [])) ≡ Some (a ∷ root ∷ [])
unfolding word u32_at block_word double_rounds diagonal_round column_round quarter_round
what_is_open_is_kept = refl

what_is_open_is_not_rooted : option_map (λ s. rooted s.graph) (run (held_open [])) ≡ Some (root ∷ [])
unfolding word u32_at block_word double_rounds diagonal_round column_round quarter_round
what_is_open_is_not_rooted = refl

what_is_open_may_not_vanish : is_legal (held_open (a ∷ [])) ≡ false
unfolding word u32_at block_word double_rounds diagonal_round column_round quarter_round
what_is_open_may_not_vanish = refl

-- ---- a rescue: what is retained while a collection marks

abbrev rescued : List Puid → List Event
rescued ids =
    events.Ask 0 (asks.CreateIndex 4 (Direct root) 0) (replies.Id a)
    ∷ events.Ask 0 (asks.Delete (Direct root) 0) replies.Done
    ∷ events.Began
    ∷ events.Ask 0 (asks.Retain (Direct root) 5 a) replies.Done
    ∷ events.Vanish ids
    ∷ []

a_rescue_stays : is_legal (rescued []) ≡ true
unfolding word u32_at block_word double_rounds diagonal_round column_round quarter_round
a_rescue_stays = refl

a_rescue_may_not_vanish : is_legal (rescued (a ∷ [])) ≡ false
unfolding word u32_at block_word double_rounds diagonal_round column_round quarter_round
a_rescue_may_not_vanish = refl

-- too late: what has vanished is no object
abbrev too_late : List Event
too_late =
    events.Ask 0 (asks.CreateIndex 4 (Direct root) 0) (replies.Id a)
    ∷ events.Ask 0 (asks.Delete (Direct root) 0) replies.Done
    ∷ events.Began
    ∷ events.Vanish (a ∷ [])
    ∷ events.Ask 0 (asks.Retain (Direct root) 5 a) replies.NoObject
    ∷ events.Finished
    ∷ []

too_late_is_legal : is_legal too_late ≡ true
unfolding word u32_at block_word double_rounds diagonal_round column_round quarter_round
too_late_is_legal = refl

-- a rescue into an index that was cut off itself is none
abbrev rescued_in_vain : List Puid → List Event
rescued_in_vain ids =
    events.Ask 0 (asks.CreateIndex 4 (Direct root) 0) (replies.Id a)
    ∷ events.Ask 0 (asks.CreateFile kinds.Normal 0 (Direct root) 1) (replies.Id b)
    ∷ events.Ask 0 (asks.Delete (Direct root) 0) replies.Done
    ∷ events.Ask 0 (asks.Delete (Direct root) 1) replies.Done
    ∷ events.Began
    ∷ events.Ask 0 (asks.Retain (Direct a) 0 b) replies.Done
    ∷ events.Vanish ids
    ∷ []

both_vanish : is_legal (rescued_in_vain (a ∷ b ∷ [])) ≡ true
unfolding word u32_at block_word double_rounds diagonal_round column_round quarter_round
both_vanish = refl

neither_may_stay : is_legal (rescued_in_vain (a ∷ [])) ≡ false
unfolding word u32_at block_word double_rounds diagonal_round column_round quarter_round
neither_may_stay = refl

-- ---- what is cut off only while a collection marks may stay for one more

abbrev two_collections : (first then : List Puid) → List Event
two_collections first then =
    events.Ask 0 (asks.CreateIndex 4 (Direct root) 0) (replies.Id a)
    ∷ events.Ask 0 (asks.CreateFile kinds.Normal 0 (Direct root) 1) (replies.Id b)
    ∷ events.Ask 0 (asks.Delete (Direct root) 1) replies.Done
    ∷ events.Began
    ∷ events.Ask 0 (asks.Delete (Direct root) 0) replies.Done
    ∷ events.Ask 0 (asks.Retain (Direct a) 0 b) replies.Done
    ∷ events.Vanish first
    ∷ events.Finished
    ∷ events.Began
    ∷ events.Vanish then
    ∷ []

both_stay_for_one : is_legal (two_collections [] (a ∷ b ∷ [])) ≡ true
unfolding word u32_at block_word double_rounds diagonal_round column_round quarter_round
both_stay_for_one = refl

then_they_must_go : is_legal (two_collections [] []) ≡ false
unfolding word u32_at block_word double_rounds diagonal_round column_round quarter_round
then_they_must_go = refl

both_may_go_at_once : is_legal (two_collections (a ∷ b ∷ []) []) ≡ true
unfolding word u32_at block_word double_rounds diagonal_round column_round quarter_round
both_may_go_at_once = refl

what_is_referred_to_may_not_vanish : is_legal (two_collections (b ∷ []) []) ≡ false
unfolding word u32_at block_word double_rounds diagonal_round column_round quarter_round
what_is_referred_to_may_not_vanish = refl

-- ---- the phases

begun_once : is_legal (events.Began ∷ events.Began ∷ []) ≡ false
begun_once = refl

finished_after_a_vanish : is_legal (events.Began ∷ events.Finished ∷ []) ≡ false
finished_after_a_vanish = refl

no_vanish_before_it_began : is_legal (events.Vanish [] ∷ []) ≡ false
no_vanish_before_it_began = refl

an_empty_collection : is_legal (events.Began ∷ events.Vanish [] ∷ events.Finished ∷ events.Began ∷ []) ≡ true
an_empty_collection = refl
