-- Worked runs: which are legal, and what they leave.
use Rattle.std.proofs.Common.{◌≡◌, ℕ, refl, List, [], ◌∷◌, ◌++◌, Some, None, true, false, length, map, Option}
use Rattle.ufs_model.proofs.Words.{Direct, Event, Object, Puid, Through, blocks_of, held_leaves, held_nodes, ids_of, is_graph, object_at, option_map, word}
use Rattle.rand_chacha.specs.Block.{block_word, column_round, diagonal_round, double_rounds, quarter_round}
use Rattle.rand_core.specs.Steps.{u32_at}
use Rattle.cfs_base.specs.declared.kind.FileKind.TheVariants as kinds
use Rattle.cfs_base.specs.declared.kind.Mode.TheVariants as modes
use Rattle.ufs_model.specs.declared.asked.Request.TheVariants as asks
use Rattle.ufs_model.specs.declared.asked.Reply.TheVariants as replies
use Rattle.ufs_model.specs.declared.asked.Unread.TheVariants as unread
use Rattle.ufs_model.specs.declared.asked.Event.TheVariants as events
use Rattle.ufs_model.proofs.Worked.{root, a, b, c, second, third, run, is_legal}

-- ---- the stored run

abbrev pub stored_run : List Event
stored_run =
    events.Ask 0 (asks.CreateIndex 4 (Direct root) 0) (replies.Id a)
    ∷ events.Ask 0 (asks.Retrieve (Direct root) 0) (replies.Id a)
    ∷ events.Ask 0 (asks.Slots (Direct a)) (replies.Number 4)
    ∷ events.Ask 0 (asks.Retrieve (Direct root) 63) replies.Empty
    ∷ events.Ask 0 (asks.Retrieve (Direct root) 64) replies.Slot
    ∷ events.Leave 0 None
    ∷ []

stored_run_is_legal : option_map (λ s. ids_of s.graph) (run stored_run) ≡ Some (root ∷ a ∷ [])
unfolding word u32_at block_word double_rounds diagonal_round column_round quarter_round
stored_run_is_legal = refl

-- another word, block 0, or the block of another object is no answer
abbrev create_answered : Puid → List Event
create_answered id = events.Ask 0 (asks.CreateIndex 4 (Direct root) 0) (replies.Id id) ∷ []

any_block_may_be_named : is_legal (create_answered (record { block = 77; word = 0x903df1a0 })) ≡ true
unfolding word u32_at block_word double_rounds diagonal_round column_round quarter_round
any_block_may_be_named = refl

changed_word : is_legal (create_answered (record { block = 3; word = 0 })) ≡ false
unfolding word u32_at block_word double_rounds diagonal_round column_round quarter_round
changed_word = refl

block_zero : is_legal (create_answered (record { block = 0; word = 0x903df1a0 })) ≡ false
unfolding word u32_at block_word double_rounds diagonal_round column_round quarter_round
block_zero = refl

block_taken : is_legal (create_answered (record { block = 2; word = 0x903df1a0 })) ≡ false
unfolding word u32_at block_word double_rounds diagonal_round column_round quarter_round
block_taken = refl

-- ---- two creates and a file below

abbrev three_made : List Event
three_made =
    events.Ask 0 (asks.CreateIndex 4 (Direct root) 0) (replies.Id a)
    ∷ events.Ask 0 (asks.CreateIndex 4 (Direct root) 1) (replies.Id b)
    ∷ events.Ask 0 (asks.CreateFile kinds.Normal 0 (Direct b) 3) (replies.Id c)
    ∷ events.Ask 0 (asks.Slots (Direct c)) replies.NotIndex
    ∷ events.Ask 0 (asks.Size (Direct c)) (replies.Number 0)
    ∷ []

-- the root index holds a leaf and a node, an index that was never filled neither
three_made_hold : option_map (λ s. map (λ e. blocks_of e.1) s.graph.objects) (run three_made) ≡ Some (3 ∷ 1 ∷ 1 ∷ 3 ∷ [])
unfolding word u32_at block_word double_rounds diagonal_round column_round quarter_round
three_made_hold = refl

three_made_are_a_graph : option_map (λ s. is_graph s.graph) (run three_made) ≡ Some true
unfolding word u32_at block_word double_rounds diagonal_round column_round quarter_round
three_made_are_a_graph = refl

-- ---- many readers or one writer

abbrev interlock : List Event
interlock =
    events.Ask 0 (asks.CreateFile kinds.Normal 0 (Direct root) 0) (replies.Id a)
    ∷ events.Ask 0 (asks.OpenFor a modes.Reading) (replies.Grant second)
    ∷ events.Ask 0 (asks.OpenFor a modes.Writing) replies.Locked
    ∷ events.Ask 0 (asks.Write (Direct a) 0 (0 ∷ [])) replies.Locked
    ∷ events.Ask 0 (asks.Write (Through second) 0 (0 ∷ [])) replies.ReadOnly
    ∷ events.Ask 1 (asks.Close second true) replies.NoGrant
    ∷ events.Ask 0 (asks.Close second true) replies.Done
    -- no refusal drew a word
    ∷ events.Ask 0 (asks.OpenFor a modes.Writing) (replies.Grant third)
    ∷ events.Ask 1 (asks.OpenFor a modes.Reading) replies.Locked
    ∷ events.Ask 1 (asks.Size (Direct a)) replies.Locked
    ∷ []

interlock_is_legal : is_legal interlock ≡ true
unfolding word u32_at block_word double_rounds diagonal_round column_round quarter_round
interlock_is_legal = refl

-- what a session leaves behind is neither a grant nor a draft
abbrev left_open : List Event
left_open =
    events.Ask 0 (asks.CreateFile kinds.Special 0 (Direct root) 0) (replies.Id a)
    ∷ events.Ask 0 (asks.OpenFor a modes.Writing) (replies.Grant second)
    ∷ events.Leave 0 None
    ∷ []

leave_drops_grants : option_map (λ s. length s.grants) (run left_open) ≡ Some 0
unfolding word u32_at block_word double_rounds diagonal_round column_round quarter_round
leave_drops_grants = refl

-- ---- a special file: a draft that is dropped, and one that is committed

abbrev drafts : List Event
drafts =
    events.Ask 0 (asks.CreateFile kinds.Special 0x2e (Direct root) 0) (replies.Id a)
    ∷ events.Ask 0 (asks.Resize (Direct a) 4) replies.Done
    ∷ events.Ask 0 (asks.OpenFor a modes.Writing) (replies.Grant second)
    ∷ events.Ask 0 (asks.Write (Through second) 0 (0x41 ∷ 0x42 ∷ 0x43 ∷ 0x44 ∷ [])) replies.Done
    ∷ events.Ask 0 (asks.Read (Direct a) 0 4) replies.Locked
    ∷ events.Ask 0 (asks.Read (Through second) 0 4) (replies.Content (0x41 ∷ 0x42 ∷ 0x43 ∷ 0x44 ∷ []))
    ∷ events.Ask 0 (asks.Close second false) replies.Done
    ∷ events.Ask 0 (asks.Read (Direct a) 0 4) (replies.Content (0x2e ∷ 0x2e ∷ 0x2e ∷ 0x2e ∷ []))
    ∷ events.Ask 0 (asks.OpenFor a modes.Writing) (replies.Grant third)
    ∷ events.Ask 0 (asks.Write (Through third) 1 (0x5a ∷ [])) replies.Done
    ∷ events.Ask 0 (asks.Close third true) replies.Done
    ∷ events.Ask 0 (asks.Close third true) replies.NoGrant
    ∷ events.Ask 0 (asks.Read (Direct a) 0 4) (replies.Content (0x2e ∷ 0x5a ∷ 0x2e ∷ 0x2e ∷ []))
    ∷ []

drafts_are_legal : is_legal drafts ≡ true
unfolding word u32_at block_word double_rounds diagonal_round column_round quarter_round
drafts_are_legal = refl

-- ---- a normal file, made smaller and larger

abbrev resizes : List Event
resizes =
    events.Ask 0 (asks.CreateFile kinds.Normal 0x2e (Direct root) 0) (replies.Id a)
    ∷ events.Ask 0 (asks.Resize (Direct a) 3) replies.Done
    ∷ events.Ask 0 (asks.Write (Direct a) 2 (0x41 ∷ 0x42 ∷ [])) replies.Range
    ∷ events.Ask 0 (asks.Write (Direct a) 2 (0x41 ∷ [])) replies.Done
    ∷ events.Ask 0 (asks.Resize (Direct a) 1) replies.Done
    ∷ events.Ask 0 (asks.Resize (Direct a) 3) replies.Done
    ∷ events.Ask 0 (asks.Read (Direct a) 0 3) (replies.Content (0x2e ∷ 0x2e ∷ 0x2e ∷ []))
    ∷ []

resizes_are_legal : is_legal resizes ≡ true
unfolding word u32_at block_word double_rounds diagonal_round column_round quarter_round
resizes_are_legal = refl

-- a leaf that a resize drops is no longer held
abbrev dropped : ℕ → List Event
dropped size =
    events.Ask 0 (asks.CreateFile kinds.Normal 0 (Direct root) 0) (replies.Id a)
    ∷ events.Ask 0 (asks.Resize (Direct a) 70000) replies.Done
    ∷ events.Ask 0 (asks.Write (Direct a) 511 (1 ∷ 2 ∷ [])) replies.Done
    ∷ events.Ask 0 (asks.Write (Direct a) 65536 (3 ∷ [])) replies.Done
    ∷ events.Ask 0 (asks.Resize (Direct a) size) replies.Done
    ∷ []

abbrev held_in : Option Object → List ℕ × List ℕ
held_in None = ([], [])
held_in (Some o) = (held_leaves o, held_nodes o)

abbrev held_after : ℕ → Option (List ℕ × List ℕ)
held_after size = option_map (λ s. held_in (object_at s.graph a)) (run (dropped size))

all_is_held : held_after 70000 ≡ Some (0 ∷ 1 ∷ 128 ∷ [], 0 ∷ 1 ∷ [])
unfolding word u32_at block_word double_rounds diagonal_round column_round quarter_round
all_is_held = refl

last_node_is_dropped : held_after 65536 ≡ Some (0 ∷ 1 ∷ [], 0 ∷ [])
unfolding word u32_at block_word double_rounds diagonal_round column_round quarter_round
last_node_is_dropped = refl

cut_leaf_stays : held_after 513 ≡ Some (0 ∷ 1 ∷ [], 0 ∷ [])
unfolding word u32_at block_word double_rounds diagonal_round column_round quarter_round
cut_leaf_stays = refl

-- ---- so few blocks left that a request may not take them

abbrev full : ℕ → ℕ → List Event
full free need = events.Ask 0 (asks.CreateIndex 4 (Direct root) 0) (replies.Full (record { free = free; need = need })) ∷ []

full_below_need_and_four : is_legal (full 7 4) ≡ true
full_below_need_and_four = refl

not_full_at_need_and_four : is_legal (full 8 4) ≡ false
not_full_at_need_and_four = refl

full_tells_the_need : is_legal (full 6 3) ≡ false
full_tells_the_need = refl

delete_is_never_full : is_legal (
    events.Ask 0 (asks.Retain (Direct root) 0 root) replies.Done
    ∷ events.Ask 0 (asks.Delete (Direct root) 0) (replies.Full (record { free = 0; need = 3 }))
    ∷ []) ≡ false
delete_is_never_full = refl

-- ---- a stop

abbrev stopped : List Event
stopped =
    events.Ask 0 (asks.Retain (Direct root) 0 root) (replies.Disk (Some 9))
    ∷ events.Ask 0 (asks.Slots (Direct root)) (replies.Stopped 9)
    ∷ events.Ask 1 (asks.Slots (Direct root)) replies.Memory
    ∷ events.Unread 1 unread.Syntax
    ∷ events.Leave 0 None
    ∷ []

stopped_is_legal : is_legal stopped ≡ true
stopped_is_legal = refl

nothing_is_served_after_a_stop : is_legal (stopped ++ events.Ask 1 (asks.Slots (Direct root)) (replies.Number 64) ∷ []) ≡ false
nothing_is_served_after_a_stop = refl

a_stop_keeps_its_moment : is_legal (stopped ++ events.Ask 1 (asks.Slots (Direct root)) (replies.Stopped 8) ∷ []) ≡ false
a_stop_keeps_its_moment = refl
