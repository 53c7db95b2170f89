-- How many blocks a tree has at most, and how many device calls and tries of a write the calls on a draft make at most.
use Rattle.std.specs.Prelude.{ℕ, ◌+◌, ◌*◌}
use Rattle.block_tree.specs.Pointers.{leaf_limit, leaf_pointers, node_pointers}

-- ---- blocks

-- a node and its leaves
abbrev pub node_blocks : ℕ
node_blocks = 1 + leaf_pointers.count

-- how many nodes and leaves an object may have
abbrev pub blocks_limit : ℕ
blocks_limit = node_pointers.count + leaf_limit

-- those of the object as it was and as it is to be, a root that is made, and the shadow root
abbrev pub listed_limit : ℕ
listed_limit = 2 * blocks_limit + 2

-- ---- calls and tries

-- the nodes of two trees are read
abbrev pub changed_reads : ℕ
changed_reads = 2 * node_pointers.count

-- a commit that has its shadow root: two calls for each entry that it changes
abbrev pub begun_calls : ℕ
begun_calls = changed_reads + 2 * blocks_limit + 5

abbrev pub begun_tries : ℕ
begun_tries = blocks_limit + 4

-- a commit that claims its shadow root before
abbrev pub commit_calls : ℕ
commit_calls = begun_calls + 2

abbrev pub commit_tries : ℕ
commit_tries = begun_tries + 1

-- an abort
abbrev pub abort_calls : ℕ
abort_calls = changed_reads + 2 * blocks_limit + 5

abbrev pub abort_tries : ℕ
abort_tries = blocks_limit + 3

-- leaves dropped: the nodes are read, and one may be written
abbrev pub drop_calls : ℕ
drop_calls = node_pointers.count + 2 * blocks_limit + 3

abbrev pub drop_tries : ℕ
drop_tries = blocks_limit + 2

-- a resize: the node in which it ends is read before, and a leaf may be put
abbrev pub resize_calls : ℕ
resize_calls = drop_calls + 9

abbrev pub resize_tries : ℕ
resize_tries = drop_tries + 4
