-- Places in an object, told apart.
use Rattle.normal_files.proofs.Words.{◌≡◌, ◌≢◌, ℕ, Leaf, Node, Root, ShadowRoot}

pub one_leaf : (p q : ℕ) → Leaf p ≡ Leaf q → p ≡ q
one_leaf p q same = cc

pub one_node : (p q : ℕ) → Node p ≡ Node q → p ≡ q
one_node p q same = cc

pub leaf_no_node : (l n : ℕ) → Leaf l ≢ Node n
leaf_no_node l n same = cc

pub leaf_no_root : (l : ℕ) → Leaf l ≢ Root
leaf_no_root l same = cc

pub node_no_root : (n : ℕ) → Node n ≢ Root
node_no_root n same = cc

pub leaf_no_shadow : (l : ℕ) → Leaf l ≢ ShadowRoot
leaf_no_shadow l same = cc

pub node_no_shadow : (n : ℕ) → Node n ≢ ShadowRoot
node_no_shadow n same = cc
