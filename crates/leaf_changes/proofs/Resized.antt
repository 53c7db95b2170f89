-- A resize: leaf by leaf, and of the file.
use Rattle.std.proofs.Common.{◌≡◌, ◌≢◌, inl, inr, ℕ, ◌-◌, ◌/◌, ◌%◌, ◌<◌, ◌≤◌, List, length, get_or, take, replicate, Option, Some, None, Bool, sym, ◌∙◌, ap, subst, arith}
use Rattle.leaf_changes.proofs.Words.{File, GivesFile, Held, LeavesFit, Root, SetSize, Shrinks, bytes_held, cases_lt, changed_object, cut, cut_held, filter, filter-rises, get_or-append_right, get_or-replicate, get_or-take, get_or_append_left, held_in, in_filter, is_some, leaf_byte, leaf_content, leaves_in, length-append, length-replicate, length-take, lt-ltb, ltb-true, nat_lt, object_with, resized, to_filter}
use Rattle.cfs_base.specs.declared.kind.Kind.TheVariants as kinds
use Rattle.leaf_changes.proofs.Contents.{length-leaf_content, same_content, same_held, held_is, content_is, byte_past_size, held_within}
use Rattle.leaf_changes.proofs.Fits.{FitsAt, fit_at, fit_each}
use Rattle.leaf_changes.proofs.Given.{file_to_leaves, file_from_leaves, some_file}
use Rattle.leaf_changes.proofs.HeldNumbers.{held-rise, in_held, to_held, held_are}

-- a root of another size
abbrev of_size : Root → ℕ → Root
of_size root size = record root { size = size }

-- leaves that give a file's bytes up to a size, and fill bytes where it has none
module _ (root : Root) (old new : ℕ → Option Held) (size : ℕ) (fit : LeavesFit root old)
    (bytes : (k : ℕ) → k < size → k < root.size → leaf_byte root.fill new k ≡ leaf_byte root.fill old k)
    (more : (k : ℕ) → k < size → root.size ≤ k → leaf_byte root.fill new k ≡ root.fill)
    (held : (n : ℕ) → n < leaves_in size → is_some (new n) ≡ is_some (old n)) where
  resized_held : filter (λ n. nat_lt n (leaves_in size)) (held_in root old) ≡ held_in (of_size root size) new
  resized_held = held_are (of_size root size) new (filter test (held_in root old)) (filter-rises test (held_in root old) (held-rise root old))
      (λ n h. let two = in_filter test n (held_in root old) h in let less = ltb-true n (leaves_in size) two.0 in (held n less ∙ (in_held root old n two.1).0, less))
      (λ n is less. let was = sym (held n less) ∙ is in to_filter test n (held_in root old) (lt-ltb n (leaves_in size) less)
      (to_held root old n was (held_within root old fit n was)))
    where
      test : ℕ → Bool
      test n = nat_lt n (leaves_in size)

  file_resized : (f : File) → GivesFile root old f → GivesFile (of_size root size) new (resized f size)
  file_resized f gives = record {
    kind = gives.kind;
    fill = gives.fill;
    size = omega (arith, length-append kept added, length-take size f.bytes, length-replicate (size - length f.bytes) f.fill);
    bytes = λ k below. elim (cases_lt k (length f.bytes)) [
      | inl inside ↦
          get_or_append_left kept added 0 k (omega (arith, length-take size f.bytes)) ∙ get_or-take size f.bytes k 0 below
          ∙ gives.bytes k (omega (arith, gives.size)) ∙ sym (bytes k below (omega (arith, gives.size)))
      | inr past ↦
          get_or-append_right kept added (length f.bytes) k 0 (omega (arith, length-take size f.bytes)) past
          ∙ get_or-replicate (size - length f.bytes) (k - length f.bytes) f.fill 0 (omega arith)
          ∙ gives.fill ∙ sym (more k below (omega (arith, gives.size)))
    ];
    held = ap (filter (λ n. nat_lt n (leaves_in size))) gives.held ∙ resized_held;
  }
    where
      kept : List ℕ
      kept = take size f.bytes

      added : List ℕ
      added = replicate (size - length f.bytes) f.fill

  object_resized : root.kind ≢ kinds.Index → object_with (of_size root size) new ≡ changed_object (SetSize size) (object_with root old)
  object_resized no_index =
      let some = some_file root old no_index in
      file_from_leaves (of_size root size) new (resized some.0 size) (file_resized some.0 (file_to_leaves root old some.0 some.1))
      ∙ ap (changed_object (SetSize size)) (sym some.1)

-- ---- to more, or to the same

module _ (root : Root) (old new : ℕ → Option Held) (size : ℕ) (fit : LeavesFit root old) (same : (n : ℕ) → bytes_held (new n) ≡ bytes_held (old n)) (more : root.size ≤ size) where
  same_byte : (k : ℕ) → leaf_byte root.fill new k ≡ leaf_byte root.fill old k
  same_byte k = ap (λ (c : List ℕ). get_or c (k % 512) 0) (same_content root.fill (new (k / 512)) (old (k / 512)) (same (k / 512)))

  pub grown_fit : LeavesFit (of_size root size) new
  grown_fit = fit_each (of_size root size) new (λ n. subst (FitsAt size root.fill n) (sym (same n)) (let was = fit_at root old fit n in record {
    within = λ bytes is. let less = was.within bytes is in omega arith;
    filled = λ bytes i is small past. was.filled bytes i is small (omega arith);
  }))

  pub grown_object : root.kind ≢ kinds.Index → object_with (of_size root size) new ≡ changed_object (SetSize size) (object_with root old)
  grown_object = object_resized root old new size fit (λ k below inside. same_byte k) (λ k below past. same_byte k ∙ byte_past_size root old fit k past) (λ n less. same_held (new n) (old n) (same n))

-- ---- to less

module _ (size fill : ℕ) where
  cut_before : (content : List ℕ) (i : ℕ) → length content ≡ 512 → i < size % 512 → get_or (cut size fill content) i 0 ≡ get_or content i 0
  unfolding cut
  cut_before content i wide early =
      get_or_append_left (take (size % 512) content) (replicate (512 - size % 512) fill) 0 i (omega (arith, length-take (size % 512) content))
      ∙ get_or-take (size % 512) content i 0 early

  cut_after : (content : List ℕ) (i : ℕ) → length content ≡ 512 → size % 512 ≤ i → i < 512 → get_or (cut size fill content) i 0 ≡ fill
  unfolding cut
  cut_after content i wide late small =
      get_or-append_right (take (size % 512) content) (replicate (512 - size % 512) fill) (size % 512) i 0 (omega (arith, length-take (size % 512) content)) late
      ∙ get_or-replicate (512 - size % 512) (i - size % 512) fill 0 (omega arith)

  length-cut : (content : List ℕ) → length content ≡ 512 → length (cut size fill content) ≡ 512
  unfolding cut
  length-cut content wide = omega (arith, length-append (take (size % 512) content) (replicate (512 - size % 512) fill), length-take (size % 512) content, length-replicate (512 - size % 512) fill)

  -- a leaf that is cut: held or not as before, the same bytes before the end, and fill bytes from there on
  record IsCut (o p : Option Held) : Type 0 where
    held : is_some p ≡ is_some o
    before : (i : ℕ) → i < size % 512 → get_or (leaf_content fill p) i 0 ≡ get_or (leaf_content fill o) i 0
    after : (bytes : List ℕ) (i : ℕ) → bytes_held p ≡ Some bytes → size % 512 ≤ i → i < 512 → get_or bytes i 0 ≡ fill

  is_cut : (o p : Option Held) → bytes_held p ≡ cut_held size fill o → IsCut o p
  is_cut None p is = record {
    held = same_held p None is;
    before = λ i early. ap (λ (c : List ℕ). get_or c i 0) (same_content fill p None is);
    after = λ bytes i none late small. cc;
  }
  is_cut (Some h) p is =
      let content = leaf_content fill (Some h) in
      let wide = length-leaf_content fill (Some h) in
      record {
        held = let there = held_is p (cut size fill content) is in ap is_some there.1;
        before = λ i early. ap (λ (c : List ℕ). get_or c i 0) (content_is fill p (cut size fill content) is (length-cut content wide)) ∙ cut_before content i wide early;
        after = λ bytes i some late small. let e : cut size fill content ≡ bytes = cc in ap (λ (c : List ℕ). get_or c i 0) (sym e) ∙ cut_after content i wide late small;
      }

module _ (root : Root) (old new : ℕ → Option Held) (size : ℕ) (fit : LeavesFit root old) (shorter : Shrinks root.fill size old new) (less : size ≤ root.size) where
  -- the leaf within which the size ends
  last_cut : (n : ℕ) → n ≡ size / 512 → size % 512 ≢ 0 → IsCut size root.fill (old n) (new n)
  last_cut n at within = subst (λ (m : ℕ). IsCut size root.fill (old m) (new m)) (sym at) (is_cut size root.fill (old (size / 512)) (new (size / 512)) (shorter.ends within))

  new_byte : (k : ℕ) → k < size → leaf_byte root.fill new k ≡ leaf_byte root.fill old k
  new_byte k below = elim (cases_lt (k / 512) (size / 512)) [
    | inl whole ↦ ap (λ (c : List ℕ). get_or c (k % 512) 0) (same_content root.fill (new (k / 512)) (old (k / 512)) (shorter.kept (k / 512) whole))
    | inr last ↦ (last_cut (k / 512) (omega arith) (omega arith)).before (k % 512) (omega arith)
  ]

  new_held : (n : ℕ) → n < leaves_in size → is_some (new n) ≡ is_some (old n)
  new_held n few = elim (cases_lt n (size / 512)) [
    | inl whole ↦ same_held (new n) (old n) (shorter.kept n whole)
    | inr last ↦ (last_cut n (omega arith) (omega arith)).held
  ]

  pub cut_fit : LeavesFit (of_size root size) new
  cut_fit = fit_each (of_size root size) new (λ n. elim (cases_lt n (leaves_in size)) [
    | inl few ↦ record {
      within = λ bytes is. few;
      filled = λ bytes i is small past. (last_cut n (omega arith) (omega arith)).after bytes i is (omega arith) small;
    }
    | inr gone ↦ subst (λ (o : Option Held). FitsAt size root.fill n (bytes_held o)) (sym (shorter.gone n gone)) (record { within = λ bytes no. cc; filled = λ bytes i no small past. cc })
  ])

  pub cut_object : root.kind ≢ kinds.Index → object_with (of_size root size) new ≡ changed_object (SetSize size) (object_with root old)
  cut_object = object_resized root old new size fit (λ k below inside. new_byte k below) (λ k below past. absurd (omega arith)) new_held
