-- The scripts of a spin's sessions.
use Rattle.std.specs.Prelude.{ℕ, zero, suc, ◌+◌, ◌/◌, ◌%◌, ◌==◌, if◌then◌else◌, List, [], ◌∷◌, ◌++◌}
use Rattle.std.specs.Prelude.{codes, get_or, set, replicate}
use Rattle.std.specs.Fmt.{decimal}
use Rattle.std.specs.Int.{w32, w64, to_be_bytes, to_le_bytes}
use Rattle.hex.specs.Hex.{encode_lower}
use Rattle.rand_chacha.specs.ChaCha.{word_at, key_of}
use Rattle.ufs_model.specs.Script.{LF}
use Rattle.cfs_workload.specs.declared.act.Left.{Left}
use Rattle.cfs_workload.specs.declared.act.Left.TheVariants.{Nothing, File, Index}
use Rattle.cfs_workload.specs.declared.act.Act.{Act}
use Rattle.cfs_workload.specs.declared.act.Act.TheVariants as acts

-- ---- what is drawn

-- The word at a place of a session's stream. The key is the seed's 8 little-endian bytes, the session's number plus
-- one, and 23 zero bytes. The stream number is 0.
unfoldable pub word_of : (seed session place : ℕ) → ℕ
word_of seed session place = word_at 10 (key_of (to_le_bytes w64 seed ++ (session + 1) ∷ replicate 23 0)) 0 place

-- the lowest three bits of a word give what is asked, the next six the slot, and the next twelve a size
abbrev pub slot_drawn : ℕ → ℕ
slot_drawn w = w / 8 % 64

abbrev pub size_in : ℕ → ℕ
size_in w = w / 512 % 4096

-- ---- what is asked of a slot: what can't be asked of it becomes the create of a normal file

abbrev pub of_object : Left → Act → Act
of_object Nothing act = acts.CreateNormal
of_object File act = act
of_object Index act = act

abbrev pub of_file : Left → Act → Act
of_file Nothing act = acts.CreateNormal
of_file File act = act
of_file Index act = acts.CreateNormal

abbrev pub act_of : ℕ → Left → Act
act_of drawn left =
    if drawn == 0 then acts.CreateNormal else
    if drawn == 1 then acts.CreateSpecial else
    if drawn == 2 then acts.CreateIndex else
    if drawn == 3 then of_object left acts.Delete else
    if drawn == 4 then of_file left acts.Resize else
    if drawn == 5 then of_file left acts.Write else
    if drawn == 6 then of_file left acts.Read else
    of_file left acts.Size

-- what the last create or delete left in the slot
abbrev pub left_after : Act → Left → Left
left_after acts.CreateNormal left = File
left_after acts.CreateSpecial left = File
left_after acts.CreateIndex left = Index
left_after acts.Delete left = Nothing
left_after acts.Resize left = left
left_after acts.Write left = left
left_after acts.Read left = left
left_after acts.Size left = left

-- ---- lines, without their ends, where the object of slot s is named os, and all are in the session's own index

abbrev pub act_line : Act → (slot size word : ℕ) → List ℕ
act_line acts.CreateNormal slot size word =
    codes "create-file o" ++ (decimal slot ++ (codes " normal 00 top " ++ decimal slot))
act_line acts.CreateSpecial slot size word =
    codes "create-file o" ++ (decimal slot ++ (codes " special 2e top " ++ decimal slot))
act_line acts.CreateIndex slot size word =
    codes "create-index o" ++ (decimal slot ++ (codes " 64 top " ++ decimal slot))
act_line acts.Delete slot size word = codes "delete top " ++ decimal slot
act_line acts.Resize slot size word = codes "resize o" ++ (decimal slot ++ (codes " " ++ decimal size))
act_line acts.Write slot size word =
    codes "write o" ++ (decimal slot ++ (codes " 0 " ++ encode_lower (to_be_bytes w32 word)))
act_line acts.Read slot size word = codes "read o" ++ (decimal slot ++ codes " 0 1")
act_line acts.Size slot size word = codes "size o" ++ decimal slot

-- what is asked at a place, if the slots have this left in them
abbrev pub act_at : (seed session place : ℕ) → List Left → Act
act_at seed session place left =
    let w = word_of seed session place in act_of (w % 8) (get_or left (slot_drawn w) Nothing)

abbrev pub line_at : (seed session place : ℕ) → List Left → List ℕ
line_at seed session place left =
    let w = word_of seed session place in act_line (act_at seed session place left) (slot_drawn w) (size_in w) w

abbrev pub left_at : (seed session place : ℕ) → List Left → List Left
left_at seed session place left =
    let slot = slot_drawn (word_of seed session place) in
    set left slot (left_after (act_at seed session place left) (get_or left slot Nothing))

-- `count` lines from a place on, each with its end
abbrev pub lines_from : (seed session place count : ℕ) → List Left → List ℕ
lines_from seed session place zero left = []
lines_from seed session place (suc count) left =
    line_at seed session place left ++ LF ∷ lines_from seed session (place + 1) count (left_at seed session place left)

-- the first line makes the session's own index, in the slot of its number, and `count` lines follow
abbrev pub script : (seed session count : ℕ) → List ℕ
script seed session count =
    (codes "create-index top 64 root " ++ decimal session)
    ++ LF ∷ lines_from seed session 0 count (replicate 64 Nothing)
