-- A walk that has found nothing.
use Rattle.std.proofs.Common.{◌≡◌, ℕ, zero, suc, Bool, false, List, [], length, get_or, replicate, None, refl, sym, ◌∙◌, ap}
use Rattle.cfs_recover.proofs.Words.{ByLabel, HasLabel, Image, IsNamed, IsWalk, Label, Puid, Walk, block_at, says}
use Rattle.cfs_recover.proofs.Learning.{walk_begins}

none_held : (n k : ℕ) → get_or (replicate n false) k false ≡ false
none_held zero k = refl
none_held (suc n) zero = refl
none_held (suc n) (suc k) = none_held n k

same_root : (image : Image) (l m : Label) → HasLabel image l → HasLabel image m → l.root ≡ m.root
same_root image l m one two =
    let a = says (block_at image 1) l one.is_label one.spelled in
    let b = says (block_at image 1) m two.is_label two.spelled in
    let block = one.is_label.root ∙ sym two.is_label.root in
    let word = sym a.word ∙ b.word in
    λ i. record { block = block i; word = word i }

pub begins : (image : Image) (w : Walk) (blocks : ℕ) (label : Label) → length image ≡ blocks → HasLabel image label → w.directory.room ≡ blocks → w.directory.named ≡ [] → w.found.items ≡ [] → w.held.items ≡ replicate blocks false → w.clash ≡ None → IsWalk image w 0
begins image w blocks label size has room named found held clash =
    walk_begins image w label named (room ∙ sym size) found (λ n. ap (λ (hs : List Bool). get_or hs n false) held ∙ none_held blocks n) clash (λ other there. same_root image label other has there)

pub label_names : (image : Image) (label : Label) (root : Puid) → HasLabel image label → label.root ≡ root → IsNamed image root 1
label_names image label root has is = ByLabel label has is
