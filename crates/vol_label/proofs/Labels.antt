-- The numbers in the block of a label.
use Rattle.std.proofs.Common.{◌≡◌, ◌≢◌, Bool, true, false, not, ℕ, ◌+◌, List, [], ◌++◌, length, take, drop, replicate, ◌<◌, ◌≤◌, ◌^◌, refl, sym, ◌∙◌, ap, subst, arith}
use Rattle.std.specs.Prelude.{nat_eq}
use Rattle.std.specs.Cmp.Lexicographic.{pointwise, other_text}
use Rattle.std.specs.Int.{to_be_bytes, from_be_bytes, w32}
use Rattle.std.proofs.lemmas.List.{take_at, drop_at, drop-drop}
use Rattle.std.proofs.lemmas.Bool.Decides.{nat_tests}
use Rattle.std.proofs.lemmas.Nat.{from_be_bytes-to_be_bytes_4}
use Rattle.vol_label.specs.declared.label.Label.{Label}
use Rattle.vol_label.specs.Label.{IsLabel, IsNoVolume, is_version, magic, spelling}

-- a number that is put behind what was put stands next to it
pub put_next : (front rest old new bytes : List ℕ) (at : ℕ) → old ≡ front ++ rest → length front ≡ at → new ≡ take at old ++ bytes ++ drop (at + 4) old → new ≡ (front ++ bytes) ++ drop 4 rest
put_next front rest old new bytes at was long put =
    let kept : take at old ≡ front = ap (take at) was ∙ take_at front rest at long in
    let left : drop (at + 4) old ≡ drop 4 rest = sym (drop-drop 4 at old) ∙ ap (λ xs. drop 4 (drop at xs)) was ∙ ap (drop 4) (drop_at front rest at long) in
    put ∙ ap (λ xs. (xs ++ bytes) ++ drop (at + 4) old) kept ∙ ap (λ xs. (front ++ bytes) ++ xs) left

-- five numbers put into zeros, one behind the other, spell a label
pub put_all : (label : Label) (b0 b1 b2 b3 b4 b5 : List ℕ) → b0 ≡ replicate 512 0
    → b1 ≡ take 0 b0 ++ magic ++ drop 4 b0
    → b2 ≡ take 4 b1 ++ to_be_bytes w32 label.version ++ drop 8 b1
    → b3 ≡ take 8 b2 ++ to_be_bytes w32 label.cylinders ++ drop 12 b2
    → b4 ≡ take 12 b3 ++ to_be_bytes w32 label.root.block ++ drop 16 b3
    → b5 ≡ take 16 b4 ++ to_be_bytes w32 label.root.word ++ drop 20 b4
    → b5 ≡ spelling label
unfolding spelling
put_all label b0 b1 b2 b3 b4 b5 p0 p1 p2 p3 p4 p5 =
    let q1 = put_next [] (replicate 512 0) b0 b1 magic 0 p0 refl p1 in
    let q2 = put_next magic (replicate 508 0) b1 b2 (to_be_bytes w32 label.version) 4 q1 refl p2 in
    let q3 = put_next (magic ++ to_be_bytes w32 label.version) (replicate 504 0) b2 b3 (to_be_bytes w32 label.cylinders) 8 q2 refl p3 in
    let q4 = put_next (magic ++ to_be_bytes w32 label.version ++ to_be_bytes w32 label.cylinders) (replicate 500 0) b3 b4 (to_be_bytes w32 label.root.block) 12 q3 refl p4 in
    let q5 = put_next (magic ++ to_be_bytes w32 label.version ++ to_be_bytes w32 label.cylinders ++ to_be_bytes w32 label.root.block) (replicate 496 0) b4 b5 (to_be_bytes w32 label.root.word) 16 q4 refl p5 in
    q5

-- what the bytes of a label say
pub record Says (block : List ℕ) (label : Label) : Type 0 where
  pub magic_stands : take 4 block ≡ magic
  pub version : from_be_bytes w32 (take 4 (drop 4 block)) ≡ label.version
  pub cylinders : from_be_bytes w32 (take 4 (drop 8 block)) ≡ label.cylinders
  pub root : from_be_bytes w32 (take 4 (drop 12 block)) ≡ label.root.block
  pub word : from_be_bytes w32 (take 4 (drop 16 block)) ≡ label.root.word

version_fits : (n : ℕ) → is_version n ≡ true → n < 2 ^ 32
version_fits n is = let one_of : n ≤ 2 = grind (arith, nat_tests) in omega arith

pub says : (block : List ℕ) (label : Label) → IsLabel label → block ≡ spelling label → Says block label
unfolding spelling
says block label is spelled = record {
  magic_stands = ap (take 4) spelled;
  version = ap (λ b. from_be_bytes w32 (take 4 (drop 4 b))) spelled ∙ from_be_bytes-to_be_bytes_4 label.version (version_fits label.version is.version);
  cylinders = ap (λ b. from_be_bytes w32 (take 4 (drop 8 b))) spelled ∙ from_be_bytes-to_be_bytes_4 label.cylinders (omega (arith, is.at_most));
  root = ap (λ b. from_be_bytes w32 (take 4 (drop 12 b))) spelled ∙ from_be_bytes-to_be_bytes_4 label.root.block (omega (arith, is.root));
  word = ap (λ b. from_be_bytes w32 (take 4 (drop 16 b))) spelled ∙ from_be_bytes-to_be_bytes_4 label.root.word is.word;
}

abbrev pub made : ℕ → ℕ → ℕ → ℕ → Label
made version cylinders block word = record { version = version; cylinders = cylinders; root = record { block = block; word = word } }

-- the numbers of a block that spells a label are that label
pub made_is : (block : List ℕ) (label : Label) (v c b w : ℕ) → IsLabel label → block ≡ spelling label → v ≡ from_be_bytes w32 (take 4 (drop 4 block)) → c ≡ from_be_bytes w32 (take 4 (drop 8 block)) → b ≡ from_be_bytes w32 (take 4 (drop 12 block)) → w ≡ from_be_bytes w32 (take 4 (drop 16 block)) → made v c b w ≡ label
made_is block label v c b w is spelled o p q r =
    let said = says block label is spelled in
    same v c b w label.version label.cylinders label.root.block label.root.word (o ∙ said.version) (p ∙ said.cylinders) (q ∙ said.root) (r ∙ said.word)
  where
    same : (v c b w v' c' b' w' : ℕ) → v ≡ v' → c ≡ c' → b ≡ b' → w ≡ w' → made v c b w ≡ made v' c' b' w'
    same v c b w v' c' b' w' o p q r = cc

pub made_spelled : (block : List ℕ) (label : Label) (v c b w : ℕ) → IsLabel label → block ≡ spelling label → v ≡ from_be_bytes w32 (take 4 (drop 4 block)) → c ≡ from_be_bytes w32 (take 4 (drop 8 block)) → b ≡ from_be_bytes w32 (take 4 (drop 12 block)) → w ≡ from_be_bytes w32 (take 4 (drop 16 block)) → IsLabel (made v c b w) × (block ≡ spelling (made v c b w))
made_spelled block label v c b w is spelled o p q r =
    let same = made_is block label v c b w is spelled o p q r in
    (subst IsLabel (sym same) is, spelled ∙ ap spelling (sym same))

-- what `!=` tells of two blocks
pub told_other : (told : Bool) (xs ys : List ℕ) → told ≡ not (pointwise nat_eq xs ys) → told ≡ true → xs ≢ ys
told_other told xs ys is says_so = other_text xs ys (passes (pointwise nat_eq xs ys) (sym is ∙ says_so))
  where
    passes : (b : Bool) → not b ≡ true → false ≡ b
    passes true differs = cc
    passes false differs = refl

-- ---- refusals

pub without_magic : (block : List ℕ) → take 4 block ≢ magic → IsNoVolume block
without_magic block no_magic = record {
  no_label = λ label is spelled. no_magic (says block label is spelled).magic_stands;
  no_version = λ found other. no_magic other.magic_stands;
}

-- of a version that is read, but no label
pub of_version : (block : List ℕ) (v : ℕ) → v ≡ from_be_bytes w32 (take 4 (drop 4 block)) → is_version v ≡ true → ((label : Label) → IsLabel label → block ≢ spelling label) → IsNoVolume block
of_version block v is read none = record {
  no_label = none;
  no_version = λ found other. absurd (let same : found ≡ v = sym other.here ∙ sym is in cc (sym (ap is_version same ∙ read) ∙ other.other));
}
