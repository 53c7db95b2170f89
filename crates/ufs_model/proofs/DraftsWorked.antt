-- Worked drafts of indices: what a session sees through them, and what a collection may take.
use Rattle.std.proofs.Common.{◌≡◌, refl, List, [], ◌∷◌, true, false}
use Rattle.rand_core.specs.Steps.{u32_at}
use Rattle.rand_chacha.specs.Block.{quarter_round, column_round, diagonal_round, double_rounds, block_word}
use Rattle.cfs_base.specs.declared.kind.FileKind.TheVariants as kinds
use Rattle.cfs_base.specs.declared.kind.Mode.TheVariants as modes
use Rattle.ufs_model.proofs.Words.{Direct, Event, Through}
use Rattle.ufs_model.specs.declared.asked.Request.TheVariants as asks
use Rattle.ufs_model.specs.declared.asked.Reply.TheVariants as replies
use Rattle.ufs_model.specs.declared.asked.Event.TheVariants as events
use Rattle.ufs_model.specs.Word.{word}
use Rattle.ufs_model.proofs.Worked.{root, a, b, c, second, third, is_legal}

-- ---- a transaction that is given up, and one that is committed

abbrev given_up : List Event → List Event
given_up more =
    events.Ask 0 (asks.CreateIndex 4 (Direct root) 0) (replies.Id a)
    ∷ events.Ask 0 (asks.OpenFor a modes.Writing) (replies.Grant second)
    ∷ events.Ask 0 (asks.Retain (Through second) 0 a) replies.Done
    ∷ events.Ask 0 (asks.Retrieve (Through second) 0) (replies.Id a)
    ∷ events.Ask 0 (asks.Retrieve (Direct a) 0) replies.Locked
    ∷ events.Ask 0 (asks.Close second false) replies.Done
    ∷ more

abbrev then_committed : List Event → List Event
then_committed more =
    events.Ask 0 (asks.Retrieve (Direct a) 0) replies.Empty
    ∷ events.Ask 0 (asks.OpenFor a modes.Writing) (replies.Grant third)
    ∷ events.Ask 0 (asks.Retain (Through third) 0 root) replies.Done
    ∷ events.Ask 0 (asks.Close third true) replies.Done
    ∷ more

transactions_on_an_index : is_legal (given_up (then_committed (events.Ask 0 (asks.Retrieve (Direct a) 0) (replies.Id root) ∷ []))) ≡ true
unfolding word u32_at block_word double_rounds diagonal_round column_round quarter_round
transactions_on_an_index = refl

an_abort_changes_nothing : is_legal (given_up (events.Ask 0 (asks.Retrieve (Direct a) 0) (replies.Id a) ∷ [])) ≡ false
unfolding word u32_at block_word double_rounds diagonal_round column_round quarter_round
an_abort_changes_nothing = refl

-- ---- the last four blocks

abbrev in_a_draft : List Event → List Event
in_a_draft more =
    events.Ask 0 (asks.CreateIndex 4 (Direct root) 0) (replies.Id a)
    ∷ events.Ask 0 (asks.OpenFor a modes.Writing) (replies.Grant second)
    ∷ events.Ask 0 (asks.CreateFile kinds.Normal 0 (Through second) 0) (replies.Id c)
    ∷ more

-- a delete through a draft may be refused for want of blocks, a direct one may not
a_delete_through_a_draft_may_be_full : is_legal (in_a_draft (events.Ask 0 (asks.Delete (Through second) 0) (replies.Full (record { free = 3; need = 0 })) ∷ [])) ≡ true
unfolding word u32_at block_word double_rounds diagonal_round column_round quarter_round
a_delete_through_a_draft_may_be_full = refl

a_direct_delete_is_never_full : is_legal (in_a_draft (events.Ask 0 (asks.Delete (Direct root) 0) (replies.Full (record { free = 3; need = 3 })) ∷ [])) ≡ false
unfolding word u32_at block_word double_rounds diagonal_round column_round quarter_round
a_direct_delete_is_never_full = refl

-- ---- an object that is made through a draft

-- it is there at once, and stays where the draft is given up
an_abort_leaves_what_was_made : is_legal (in_a_draft (events.Ask 0 (asks.Close second false) replies.Done ∷ events.Ask 0 (asks.Retain (Direct root) 1 c) replies.Done ∷ [])) ≡ true
unfolding word u32_at block_word double_rounds diagonal_round column_round quarter_round
an_abort_leaves_what_was_made = refl

-- until a collection takes it
what_was_made_goes_later : is_legal (in_a_draft (events.Ask 0 (asks.Close second false) replies.Done ∷ events.Began ∷ events.Vanish (c ∷ []) ∷ [])) ≡ true
unfolding word u32_at block_word double_rounds diagonal_round column_round quarter_round
what_was_made_goes_later = refl

-- ---- what a draft alone refers to is kept, and goes once the draft has ended

abbrev held_by_a_draft : List Event → List Event
held_by_a_draft more =
    events.Ask 0 (asks.CreateIndex 4 (Direct root) 0) (replies.Id a)
    ∷ events.Ask 0 (asks.CreateFile kinds.Normal 0 (Direct root) 1) (replies.Id b)
    ∷ events.Ask 0 (asks.OpenFor a modes.Writing) (replies.Grant third)
    ∷ events.Ask 0 (asks.Retain (Through third) 0 b) replies.Done
    ∷ events.Ask 0 (asks.Delete (Direct root) 1) replies.Done
    ∷ events.Began
    ∷ more

-- the next collection begins once the draft was given up
abbrev after_an_abort : List Event → List Event
after_an_abort more = events.Vanish [] ∷ events.Finished ∷ events.Ask 0 (asks.Close third false) replies.Done ∷ events.Began ∷ more

a_reference_in_a_draft_keeps : is_legal (held_by_a_draft (events.Vanish (b ∷ []) ∷ [])) ≡ false
unfolding word u32_at block_word double_rounds diagonal_round column_round quarter_round
a_reference_in_a_draft_keeps = refl

it_goes_with_the_abort : is_legal (held_by_a_draft (after_an_abort (events.Vanish (b ∷ []) ∷ []))) ≡ true
unfolding word u32_at block_word double_rounds diagonal_round column_round quarter_round
it_goes_with_the_abort = refl

it_must_go_with_the_abort : is_legal (held_by_a_draft (after_an_abort (events.Vanish [] ∷ []))) ≡ false
unfolding word u32_at block_word double_rounds diagonal_round column_round quarter_round
it_must_go_with_the_abort = refl
