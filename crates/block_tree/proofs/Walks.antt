-- A walk over the held leaves of a tree, step by step.
use Rattle.std.proofs.Common.{◌≡◌, ◌⊎◌, inl, inr, ℕ, ◌+◌, ◌-◌, ◌*◌, ◌/◌, ◌%◌, ◌<◌, ◌≤◌, List, refl, sym, subst, arith, IfSome, Option, Some, None}
use Rattle.block_tree.proofs.Words.{AreQuiet, EachLeaf, Ghosts, HasNoDeadEnd, HeldStep, Image, IsFirstHeld, IsFirstPast, HasNearPath, IsPlaced, IsStepped, LeafStep, OnlyReads, Pointer, SomeHeld, Tells, cases_lt, leaf_block, leaf_count, leaf_limit, leaf_pointers, levels_of, node_levels, reads_then, tells_on}
use Rattle.block_tree.specs.Step.{IsFoundOf, IsSureStep, IsStepWithin, upto}

pub count_is : (root : List ℕ) → leaf_count root ≡ leaf_limit
unfolding levels_of
count_is root = refl

-- ---- from a leaf on, before which all are quiet

module _ (image : Image) (size : ℕ) (root : List ℕ) (from at : ℕ) (later : from ≤ at) (quiet : AreQuiet image size root from at) where
  abbrev end : ℕ
  end = leaf_count root

  module _ (step : LeafStep) (is : IsStepped image root at step) (followed : EachLeaf at (upto end step.next) (HasNearPath image size root)) where
    found_as : (f : Option HeldStep) → step.found ≡ f → IsFoundOf (leaf_block image root) at f (upto end step.next)
    found_as f same = subst (λ (o : Option HeldStep). IsFoundOf (leaf_block image root) at o (upto end step.next)) same is.found

    pub quiet_on : step.found ≡ None → AreQuiet image size root from (upto end step.next)
    quiet_on none leaf on less = elim (cases_lt leaf at) [
      | inl before ↦ quiet leaf on before
      | inr past ↦ record { absent = found_as None none leaf past less; followed = followed leaf past less }
    ]

    pub held_on : (f : HeldStep) → step.found ≡ Some f → IsFirstHeld image size root from f.held
    held_on f same =
        let two = found_as (Some f) same in
        let inside = two.0.inside in
        record {
          on = omega (arith, two.0.on, later);
          inside = omega (arith, inside, is.most);
          block = two.0.block_is;
          is_held = two.0.is_held;
          before = λ leaf on less. elim (cases_lt leaf at) [
            | inl before ↦ quiet leaf on before
            | inr past ↦ record { absent = two.0.before leaf past less; followed = followed leaf past (omega (arith, less, inside)) }
          ];
          followed = followed f.held.leaf two.0.on inside;
        }

  pub past_on : (p : Pointer) → IsFirstPast image size root at p → IsFirstPast image size root from p
  past_on p past = record {
    leaf = past.leaf;
    on = omega (arith, later, past.on);
    inside = past.inside;
    past = past.past;
    before = λ leaf on less. elim (cases_lt leaf at) [ inl before ↦ quiet leaf on before | inr after ↦ past.before leaf after less ];
  }

-- ---- how far a walk has come

-- the blocks of leaves that it has passed
abbrev pub passed : ℕ → Option ℕ → ℕ
passed from None = leaf_limit / leaf_pointers.count
passed from (Some n) = n / leaf_pointers.count - from / leaf_pointers.count

-- where no node leads to no leaf it makes a step, and another from where that sends
abbrev pub IsFew : {D : Type 0} → Ghosts D → List ℕ → (from : ℕ) → D → D → Option ℕ → Type 0
IsFew g root from old now None = g.calls now ≤ g.calls old + 2 * node_levels
IsFew g root from old now (Some n) = (g.calls now ≤ g.calls old) ⊎ IsPlaced (g.content old) root n × (g.calls now ≤ g.calls old + node_levels)

pub record IsWalked {D : Type 0} (g : Ghosts D) (root : List ℕ) (from : ℕ) (old now : D) (next : Option ℕ) : Type 0 where
  pub on : IfSome next (λ n. (from ≤ n) × (n / leaf_pointers.count - from / leaf_pointers.count < leaf_limit / leaf_pointers.count))
  pub quiet : Tells g old → AreQuiet (g.content old) (g.blocks old) root from (upto (leaf_count root) next)
  pub reads : OnlyReads g (node_levels * passed from next) old now
  pub few : Tells g old → HasNoDeadEnd (g.content old) root → IsFew g root from old now next

-- what a step tells
pub record IsStepOn {D : Type 0} (g : Ghosts D) (root : List ℕ) (at : ℕ) (mid new : D) (step : LeafStep) : Type 0 where
  pub steps : Tells g mid → IsStepped (g.content mid) root at step
  pub followed : Tells g mid → EachLeaf at (upto (leaf_count root) step.next) (HasNearPath (g.content mid) (g.blocks mid) root)
  pub sure : Tells g mid → HasNoDeadEnd (g.content mid) root → IsPlaced (g.content mid) root at → IsSureStep step
  pub sought : Tells g mid → HasNoDeadEnd (g.content mid) root → IfSome step.next (λ n. IsPlaced (g.content mid) root n × SomeHeld (g.content mid) root n)
  pub within : IsStepWithin leaf_limit at step
  pub reads : OnlyReads g node_levels mid new

module _ {D : Type 0} (g : Ghosts D) (root : List ℕ) (from at : ℕ) (old mid new : D) (so : IsWalked g root from old mid (Some at)) where
  pub walk_reads : OnlyReads g node_levels mid new → OnlyReads g (node_levels * (leaf_limit / leaf_pointers.count)) old new
  walk_reads reads = reads_then g old mid new (node_levels * passed from (Some at)) node_levels (node_levels * (leaf_limit / leaf_pointers.count)) so.reads reads (omega (arith, so.on.1))

  pub walk_few : OnlyReads g node_levels mid new → Tells g old → HasNoDeadEnd (g.content old) root → g.calls new ≤ g.calls old + 2 * node_levels
  walk_few reads tells alive = elim (so.few tells alive) [ inl first ↦ omega (arith, first, reads.calls) | inr second ↦ omega (arith, second.1, reads.calls) ]

  -- as the disk stood at first
  module _ (step : LeafStep) (is : IsStepOn g root at mid new step) (tells : Tells g old) where
    on_mid : Tells g mid
    on_mid = tells_on g old mid mid (node_levels * passed from (Some at)) so.reads tells

    stepped : IsStepped (g.content old) root at step
    stepped = subst (λ (i : Image). IsStepped i root at step) so.reads.content (is.steps on_mid)

    followed : EachLeaf at (upto (leaf_count root) step.next) (HasNearPath (g.content old) (g.blocks old) root)
    followed =
        subst (λ (i : Image). EachLeaf at (upto (leaf_count root) step.next) (HasNearPath i (g.blocks old) root)) so.reads.content
        (subst (λ (n : ℕ). EachLeaf at (upto (leaf_count root) step.next) (HasNearPath (g.content mid) n root)) so.reads.same.size (is.followed on_mid))

    pub walk_finds : (f : HeldStep) → step.found ≡ Some f → IsFirstHeld (g.content old) (g.blocks old) root from f.held
    walk_finds = held_on (g.content old) (g.blocks old) root from at so.on.0 (so.quiet tells) step stepped followed

    alive_mid : HasNoDeadEnd (g.content old) root → HasNoDeadEnd (g.content mid) root
    alive_mid = subst (λ (i : Image). HasNoDeadEnd i root) (sym so.reads.content)

    few_on : (n : Option ℕ) → step.next ≡ n → step.found ≡ None → HasNoDeadEnd (g.content old) root → IfSome n (λ m. IsPlaced (g.content mid) root m × SomeHeld (g.content mid) root m) → IsFew g root from old new n
    few_on None same none alive t = walk_few is.reads tells alive
    few_on (Some n) same none alive placed = elim (so.few tells alive) [
      | inl first ↦ inr (subst (λ (i : Image). IsPlaced i root n) so.reads.content placed.0, omega (arith, first, is.reads.calls))
      | inr second ↦
          let ended = is.sure on_mid (alive_mid alive) (subst (λ (i : Image). IsPlaced i root at) (sym so.reads.content) second.0) none in
          cc
    ]

  -- where a step finds none
  pub walk_goes_on : (step : LeafStep) → IsStepOn g root at mid new step → step.found ≡ None → IsWalked g root from old new step.next
  walk_goes_on step is none = record {
    on = on step.next is.within.next;
    quiet = λ tells. quiet_on (g.content old) (g.blocks old) root from at so.on.0 (so.quiet tells) step (stepped step is tells) (followed step is tells) none;
    reads = reads step.next is.within.next (is.within.turns none);
    few = λ tells alive. few_on step is tells step.next refl none alive (is.sought (on_mid step is tells) (alive_mid step is tells alive));
  }
    where
      on : (n : Option ℕ) → IfSome n (λ m. (at < m) × (m < leaf_limit)) → IfSome n (λ m. (from ≤ m) × (m / leaf_pointers.count - from / leaf_pointers.count < leaf_limit / leaf_pointers.count))
      on None t = tt
      on (Some n) two = (omega (arith, so.on.0, two.0), omega (arith, two.1))

      reads : (n : Option ℕ) → IfSome n (λ m. (at < m) × (m < leaf_limit)) → IfSome n (λ m. m % leaf_pointers.count ≡ 0) → OnlyReads g (node_levels * passed from n) old new
      reads None t even = walk_reads is.reads
      reads (Some n) two even = reads_then g old mid new (node_levels * passed from (Some at)) node_levels (node_levels * passed from (Some n)) so.reads is.reads (omega (arith, two.0, even, so.on.0))
