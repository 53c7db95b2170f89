-- Runs of writes, every image of which has one property: one lemma for each call.
use Rattle.std.proofs.Common.{◌≡◌, ◌⊎◌, inl, inr, ⊎_elim, ℕ, ◌+◌, ◌<◌, IsTrue, List, [], length, set, Some, sym, ◌∙◌, ap, subst, arith, get_or-set_same, get_or-set_other}
use Rattle.cfs_recover.proofs.Words.{AreAllCopies, AreCopied, AreCopiesOf, AreWritten, Copied, CopiesRoots, Ghosts, Graph, Holds, Image, IsCopyOf, IsSameDisk, IsSettled, IsUntouched, RunKeeps, Leads, Leaves, Written, block_at, cases_eq, cases_lt, left_now, on, root_spelling, same_Some, slice_get, slice_get_within, source, then, wider}
use Rattle.cfs_recover.proofs.Tidyings.{copied_content, copies_write}

module _ {D : Type 0} (g : Ghosts D) (P : Image → Type 0) where
  -- nothing waits
  pub keeps_begin : (d : D) → IsSettled g d → P (g.content d) → RunKeeps g P d d
  keeps_begin d s is = record {
    tells = s.tells;
    content = is;
    here = λ c h. subst P (sym (s.only c h)) is;
    leaves = record { later = omega arith; since = λ t c le h. inl h; now = λ c h. inl h };
  }

  module _ (start old new : D) (n : ℕ) (block : List ℕ) (run : RunKeeps g P start old) (step : (c : Image) → P c → P (set c n block)) where
    has : (c : Image) → Written (left_now g old) n block c → P c
    has c w = subst P (sym w.2) (step w.0 (run.here w.0 w.1))

    -- done or failed
    pub keeps_tried : Leaves g old new (Written (left_now g old) n block) → Leaves g start new P
    keeps_tried images = then g start old new P (Written (left_now g old) n block) run.leaves images has

    pub leads_tried : (g.content new ≡ g.content old) ⊎ (g.content new ≡ set (g.content old) n block) → Leaves g old new (Written (left_now g old) n block) → Leads g P start new
    leads_tried either images = record {
      content = ⊎_elim (λ same. subst P (sym same) run.content) (λ put. subst P (sym put) (step (g.content old) run.content)) either;
      leaves = keeps_tried images;
    }

    -- done
    pub keeps_wrote : Leaves g old new (Written (left_now g old) n block) → IsSameDisk g.blocks g.honest g.tells_images old new → g.content new ≡ set (g.content old) n block
        → ((m : ℕ) → IsTrue (g.told old m) → IsTrue (g.told new m)) → RunKeeps g P start new
    keeps_wrote images same content told = record {
      tells = record { honest = subst IsTrue (sym same.honesty) run.tells.honest; told = λ m. told m (run.tells.told m) };
      content = subst P (sym content) (step (g.content old) run.content);
      here = λ c h. ⊎_elim (λ was. run.here c was) (has c) (images.now c h);
      leaves = keeps_tried images;
    }

-- ---- the writes of recovery

-- a root
pub root_step : (a : Image) (graph : Graph) (copied : Copied) (block : List ℕ) → IsCopyOf a graph copied → copied.block < length a → block ≡ root_spelling copied.root
    → (c : Image) → CopiesRoots a graph c → CopiesRoots a graph (set c copied.block block)
root_step a graph copied block copy below is c copies =
    let content : block ≡ block_at a (source a copy.id.block) = is ∙ sym copy.spelled.spelled in
    subst (λ (n : ℕ). CopiesRoots a graph (set c n block)) (sym copy.block)
    (subst (λ (b : List ℕ). CopiesRoots a graph (set c copy.id.block b)) (sym content) (copies_write a graph c copy.id copy.object copies copy.there (omega (arith, below, copies.size, copy.block))))

-- one root more is written
pub written_more : (a : Image) (graph : Graph) (copies : List Copied) (b new : Image) (n : ℕ) (copied : Copied) → AreCopiesOf a graph copies → AreWritten a copies b n → slice_get copies n ≡ Some copied
    → new ≡ set b copied.block (root_spelling copied.root) → copied.block < length b → AreWritten a copies new (n + 1)
written_more a graph copies b new n copied all written at is inside k c less here = elim (cases_eq c.block copied.block) [
  | inl same ↦
      let copy = all n copied at in
      (λ i. block_at (is i) (same i)) ∙ get_or-set_same b copied.block (root_spelling copied.root) [] inside ∙ sym copy.spelled.spelled
      ∙ ap (λ (r : ℕ). block_at a (source a r)) (sym copy.block ∙ sym same)
  | inr other ↦
      let before : k < n = elim (cases_lt k n) [
        | inl lower ↦ lower
        | inr last ↦
            let place : k ≡ n = omega arith in
            absurd (other (ap (λ (x : Copied). x.block) (same_Some _ _ (sym here ∙ ap (slice_get copies) place ∙ at))))
      ] in
      ap (λ (i : Image). block_at i c.block) is ∙ get_or-set_other b copied.block c.block (root_spelling copied.root) [] other ∙ written k c before here
]

-- once all are written each root has the content by which its object is read
pub all_copied : (a : Image) (graph : Graph) (copies : List Copied) (b : Image) → Holds a graph → AreAllCopies a graph copies → CopiesRoots a graph b → AreWritten a copies b (length copies) → AreCopied b graph
all_copied a graph copies b holds all roots written id o at = copied_content a graph b holds roots id o at ∙ sym (elim (all.all id o at) [
  | inl own ↦ elim (roots.each id.block) [
    | inl same ↦ same ∙ ap (block_at a) (sym own)
    | inr root ↦ root.4 ∙ ap (λ (n : ℕ). block_at a (source a n)) (sym root.3)
  ]
  | inr has ↦ ap (block_at b) (sym has.3) ∙ written has.0 has.1 (slice_get_within copies has.0 has.1 has.2) has.2 ∙ ap (λ (n : ℕ). block_at a (source a n)) has.3
])

-- a barrier after the writes, or nothing
module _ {D : Type 0} (g : Ghosts D) (P : Image → Type 0) (start mid new : D) where
  pub leads_on : Leads g P start mid → IsUntouched g mid new → Leads g P start new
  leads_on first flush = record { content = subst P (sym flush.content) first.content; leaves = on g start mid new P first.leaves flush.images }

  -- one run after another
  pub leads_then : (Q : Image → Type 0) → Leads g P start mid → Leads g Q mid new → ((c : Image) → Q c → P c) → Leads g P start new
  leads_then Q first second more = record { content = more (g.content new) second.content; leaves = then g start mid new P Q first.leaves second.leaves more }

-- what has come so far leads to it
pub keeps_lead : {D : Type 0} (g : Ghosts D) (P : Image → Type 0) (start now : D) → RunKeeps g P start now → Leads g P start now
keeps_lead g P start now run = record { content = run.content; leaves = run.leaves }

-- more room for what is left
pub leads_as : {D : Type 0} (g : Ghosts D) (P Q : Image → Type 0) (start now : D) → ((c : Image) → P c → Q c) → Leads g P start now → Leads g Q start now
leads_as g P Q start now more run = record { content = more (g.content now) run.content; leaves = wider g start now P Q run.leaves more }
