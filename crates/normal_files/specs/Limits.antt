-- How many device calls, and tries of a write among them, it takes at most to set a file to less.
use Rattle.std.specs.Prelude.{ℕ, ◌+◌, ◌*◌}
use Rattle.block_tree.specs.Pointers.{leaf_pointers, node_pointers}

-- one block that becomes Free: its map is read and written
abbrev pub free_calls : ℕ
free_calls = 2

abbrev pub free_tries : ℕ
free_tries = 1

-- all leaves of a node
abbrev pub free_leaves_calls : ℕ
free_leaves_calls = leaf_pointers.count * free_calls

abbrev pub free_leaves_tries : ℕ
free_leaves_tries = leaf_pointers.count * free_tries

-- a node, which is read before, with all its leaves
abbrev pub free_node_calls : ℕ
free_node_calls = 1 + free_leaves_calls + free_calls

abbrev pub free_node_tries : ℕ
free_node_tries = free_leaves_tries + free_tries

-- all nodes
abbrev pub free_nodes_calls : ℕ
free_nodes_calls = node_pointers.count * free_node_calls

abbrev pub free_nodes_tries : ℕ
free_nodes_tries = node_pointers.count * free_node_tries

-- what is past the end of a file: the leaves of its last node, that node, and the nodes past it
abbrev pub free_past_calls : ℕ
free_past_calls = free_leaves_calls + free_calls + free_nodes_calls

abbrev pub free_past_tries : ℕ
free_past_tries = free_leaves_tries + free_tries + free_nodes_tries

-- a file that is set to less: its end is read, then its leaf, node and root are written, with two barriers
abbrev pub shrink_calls : ℕ
shrink_calls = 2 + 5 + free_past_calls

abbrev pub shrink_tries : ℕ
shrink_tries = 5 + free_past_tries

-- a file whose root is read before
abbrev pub in_place_resize_calls : ℕ
in_place_resize_calls = 1 + shrink_calls

abbrev pub in_place_resize_tries : ℕ
in_place_resize_tries = shrink_tries
