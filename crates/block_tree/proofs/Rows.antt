-- The definitions on a worked volume: block 2 is the root index, whose node 0 is block 5 and whose leaf 0 is block 4.
use Rattle.std.proofs.Common.{◌≡◌, ℕ, List, [], ◌∷◌, ◌++◌, take, replicate, refl}
use Rattle.block_tree.proofs.Words.{Image, Index, leaves_with_blocks, leaf_block, leaf_bytes, leaf_count, levels_of, path_to, pointers_of, root_spelling, tree_of}

zeros : ℕ → List ℕ
zeros n = replicate n 0

-- an index of one leaf of 64 slots
root_block : List ℕ
root_block = 3 ∷ 0 ∷ 0 ∷ 0 ∷ 0xad ∷ 0xe0 ∷ 0xb8 ∷ 0x76 ∷ 0 ∷ 0 ∷ 0 ∷ 0 ∷ 0 ∷ 0 ∷ 2 ∷ 0 ∷ zeros 16 ++ 0 ∷ 0 ∷ 0 ∷ 5 ∷ zeros 476

-- slot 0 holds an identifier
leaf_content : List ℕ
leaf_content = 0 ∷ 0 ∷ 0 ∷ 3 ∷ 0x90 ∷ 0x3d ∷ 0xf1 ∷ 0xa0 ∷ zeros 504

node_content : List ℕ
node_content = 0 ∷ 0 ∷ 0 ∷ 4 ∷ zeros 508

volume : Image
volume = zeros 512 ∷ zeros 512 ∷ root_block ∷ zeros 512 ∷ leaf_content ∷ node_content ∷ []

root_is : root_block ≡ root_spelling (record { kind = Index; fill = 0; word = 0xade0b876; size = 512; nodes = 5 ∷ zeros 119 })
unfolding root_block zeros root_spelling
root_is = refl

node_is : tree_of volume root_block (0 ∷ []) ≡ 5
unfolding volume root_block leaf_content node_content zeros levels_of pointers_of
node_is = refl

leaf_is : leaf_block volume root_block 0 ≡ 4
unfolding volume root_block leaf_content node_content zeros levels_of path_to pointers_of
leaf_is = refl

next_leaf_is : leaf_block volume root_block 1 ≡ 0
unfolding volume root_block leaf_content node_content zeros levels_of path_to pointers_of
next_leaf_is = refl

last_leaf_is : leaf_block volume root_block 15359 ≡ 0
unfolding volume root_block leaf_content node_content zeros levels_of path_to pointers_of
last_leaf_is = refl

bytes_are : take 8 (leaf_bytes volume root_block 0) ≡ 0 ∷ 0 ∷ 0 ∷ 3 ∷ 0x90 ∷ 0x3d ∷ 0xf1 ∷ 0xa0 ∷ []
unfolding volume root_block leaf_content node_content zeros levels_of path_to pointers_of
bytes_are = refl

held_are : leaves_with_blocks volume root_block 3 ≡ 0 ∷ []
unfolding volume root_block leaf_content node_content zeros levels_of path_to pointers_of
held_are = refl

count_is : leaf_count root_block ≡ 15360
unfolding levels_of
count_is = refl
