-- What a core comes to that carries out what its last commit has left.
use Rattle.std.proofs.Common.{◌≡◌, ◌⊎◌, inl, inr, ℕ, ◌<◌, ◌≤◌, IsSome, Bool, true, false, Option, Some, None, Result, Ok, Err, is_some, refl, sym, ap, ◌∙◌, subst, arith, cond}
use Rattle.cfs_base.proofs.Runs.{then, wider}
use Rattle.cfs_base.specs.Disk.{Image}
use Rattle.cfs_base.specs.Outside.{Rose, count_after}
use Rattle.cfs_base.specs.Run.{Leaves}
use Rattle.cfs_base.specs.declared.disk.Disk.{Ghosts}
use Rattle.cfs_core.specs.Kernel.{Kernel}
use Rattle.cfs_core.specs.StandsFor.{StandsFor}
use Rattle.cfs_core.specs.Tidy.{TidiesVolume}
use Rattle.cfs_core.specs.declared.collecting.CollectFault.{CollectFault}
use Rattle.cfs_core.specs.declared.kernel.Stop.{Stop}
use Rattle.cfs_core.specs.declared.tidying.Tidy.{Tidy}
use Rattle.cfs_core.specs.declared.tidying.Tidy.TheVariants as tidies
use Rattle.cfs_core.specs.declared.tidying.TidyFault.{TidyFault}
use Rattle.cfs_core.specs.declared.tidying.TidyFault.TheVariants as faults
use Rattle.cyl_alloc.specs.Left.{LeftCommit, parts_left}
use Rattle.survival.specs.Call.{After, Before, Cut, CutInDoubt, Early, InDoubt, Late, ReadsIn, Survived}
use Rattle.ufs_model.specs.declared.asked.Event.TheVariants as events
use Rattle.ufs_model.specs.Graph.{Graph}
use Rattle.ufs_model.specs.Next.{next}
use Rattle.ufs_model.specs.State.{State, is_running, stopped_at}
use Rattle.cfs_serve.proofs.Logs.{some_same}
use Rattle.cfs_serve.specs.Ending.{TellsStop, damage_in, is_failure, is_fault}
use Rattle.cfs_serve.specs.Logs.{first_fault, is_quiet_fault}
use Rattle.cfs_serve.specs.Tidied.{After as More, Begun, EndsTidying, MakesParts, TidiesAll}
use Rattle.cfs_serve.specs.Turns.{fault_as}

-- it reads as this graph
abbrev pub ReadsAs : Graph → Image → Type 0
ReadsAs graph c = ReadsIn c (λ h. h ≡ graph)

-- a core came to this one, which has the graph; and so reads what a crash leaves on the way
pub record Settles {D : Type 0} (g : Ghosts D) (old new : Kernel D) (s : State) : Type 0 where
  pub after : State
  pub stands : StandsFor g new after
  pub graph : after.graph ≡ s.graph
  pub same : new.stop ≡ None → after ≡ s
  pub leaves : Leaves g old.disk new.disk (ReadsAs s.graph)
  pub undamaged : damage_in old.stop ≡ None → damage_in new.stop ≡ None

pub record GoesOn {D : Type 0} (g : Ghosts D) (old new : Kernel D) : Type 0 where
  pub later : g.faults old.disk ≤ g.faults new.disk
  pub size : g.blocks new.disk ≡ g.blocks old.disk
  pub words : new.words ≡ old.words
  -- one that stopped stays so
  pub stays : (stop : Stop) → old.stop ≡ Some stop → new.stop ≡ Some stop
  -- whatever disk it is: a failed call is behind a stop
  pub fell : is_failure new.stop ≡ true → (is_failure old.stop ≡ true) ⊎ Rose (g.faults old.disk) (g.faults new.disk)

-- the count with a quiet fault is no less where it began no less
first_fault_more : (o : Option CollectFault) (n m most : ℕ) → n ≤ m → first_fault o m ≤ most → first_fault o n ≤ most
first_fault_more o n m most below last = at (is_quiet_fault o) last
  where
    at : (b : Bool) → cond b (count_after m) m ≤ most → cond b (count_after n) n ≤ most
    at true last = omega (arith, below, last)
    at false last = omega (arith, below, last)

-- ---- at a stop

-- the moment alone is told
halts_so : (s t : State) (seed moment : ℕ) → next seed s (events.Halted moment) ≡ Some t → t.graph ≡ s.graph
halts_so s t seed moment is = by (is_running s) refl is
  where
    by : (b : Bool) → is_running s ≡ b → Rattle.ufs_model.specs.Next.allowed_if b (stopped_at moment s) ≡ Some t → t.graph ≡ s.graph
    by true runs is = ap (λ (x : State). x.graph) (sym (some_same _ _ is))
    by false runs is = absurd (cc is)

module _ {D : Type 0} (g : Ghosts D) where
  none_left : (d : D) (P : Image → Type 0) → Leaves g d d P
  none_left d P = record { later = omega arith; since = λ t c below left. inl left; now = λ c left. inl left }

  early_as : (seed moment : ℕ) (s : State) (c : Image) (h : Graph) → Early seed s (events.Halted moment) h → h ≡ s.graph
  early_as seed moment s c h (Before e) = refl

  late_as : (seed moment : ℕ) (s : State) (h : Graph) → Late seed s (events.Halted moment) h → h ≡ s.graph
  late_as seed moment s h (After e t is) = halts_so s t seed moment is

  halt_leaves : (seed moment : ℕ) (s : State) (old new : D) → Survived g seed s (events.Halted moment) old new → Leaves g old new (ReadsAs s.graph)
  halt_leaves seed moment s old new (inl survives) = wider g old new _ (ReadsAs s.graph) survives.crashes (λ c is. elim is [
    | inl r ↦ record { graph = r.graph; may = early_as seed moment s c r.graph r.may; reads = r.reads }
    | inr r ↦ record { graph = r.graph; may = late_as seed moment s r.graph r.may; reads = r.reads }
  ])
  halt_leaves seed moment s old new (inr idle) = rw idle.disk (none_left old (ReadsAs s.graph))

  -- ---- one part

  module _ (old new : Kernel D) where
    pub part_settles : (tidy : Tidy) → TidiesVolume g old new (Ok tidy) → (s : State) → StandsFor g old s → Settles g old new s
    part_settles tidy did s stands =
        let rests = did.event s stands in
        record {
          after = s;
          stands = rests.stands;
          graph = refl;
          same = λ runs. refl;
          leaves = rests.keeps.crashes;
          undamaged = λ sound. ap damage_in did.goes_on ∙ sound;
        }

    pub part_goes_on : (tidy : Tidy) → TidiesVolume g old new (Ok tidy) → GoesOn g old new
    part_goes_on tidy did = record {
      later = did.calls.faults;
      size = did.calls.same.size;
      words = ap (λ (k : Kernel D). k.words) did.same;
      stays = λ stop is. let same : new ≡ old = (did.stopped stop is).0 in ap (λ (k : Kernel D). k.stop) same ∙ is;
      fell = λ failed. inl (sym (ap is_failure did.goes_on) ∙ failed);
    }

    -- ---- a refusal

    refused_stands : (fault : TidyFault) → TidiesVolume g old new (Err fault) → (s : State) → StandsFor g old s → (o : Option Stop) → old.stop ≡ o → Settles g old new s
    refused_stands fault did s stands (Some stop) is =
        let still = (did.stopped stop is).0 in
        rw still (record {
          after = s;
          stands = stands;
          graph = refl;
          same = λ runs. refl;
          leaves = none_left old.disk (ReadsAs s.graph);
          undamaged = λ sound. sound;
        })
    refused_stands (faults.Disk None) did s stands None is =
        let rests = did.event s stands in
        record {
          after = s;
          stands = rests.stands;
          graph = refl;
          same = λ runs. refl;
          leaves = rests.keeps.crashes;
          undamaged = λ sound. ap damage_in did.stops ∙ sound;
        }
    refused_stands (faults.Disk (Some moment)) did s stands None is =
        let happens = did.event s stands in
        record {
          after = happens.after;
          stands = happens.stands;
          graph = halts_so s happens.after old.words.seed moment happens.step;
          same = λ runs. absurd (cc (sym did.stops ∙ runs));
          leaves = halt_leaves old.words.seed moment s old.disk new.disk happens.survives;
          undamaged = λ sound. ap damage_in did.stops;
        }
    refused_stands (faults.Damaged damage moment) did s stands None is = absurd (did.sound is s stands)
    refused_stands (faults.Stopped moment) did s stands None is = absurd (did.sound is s stands)

    pub refused_settles : (fault : TidyFault) → TidiesVolume g old new (Err fault) → (s : State) → StandsFor g old s → Settles g old new s
    refused_settles fault did s stands = refused_stands fault did s stands old.stop refl

    refused_fell : (fault : TidyFault) → TidiesVolume g old new (Err fault) → is_failure new.stop ≡ true → (is_failure old.stop ≡ true) ⊎ Rose (g.faults old.disk) (g.faults new.disk)
    refused_fell (faults.Disk None) did failed = inl (sym (ap is_failure did.stops) ∙ failed)
    refused_fell (faults.Disk (Some moment)) did failed = inr did.cause.0.failed.cause
    refused_fell (faults.Damaged damage moment) did failed = absurd (cc (sym (ap is_failure did.stops) ∙ failed))
    refused_fell (faults.Stopped moment) did failed = inl (sym (ap is_failure did.stops) ∙ failed)

    pub refused_goes_on : (fault : TidyFault) → TidiesVolume g old new (Err fault) → GoesOn g old new
    refused_goes_on fault did = record {
      later = did.calls.faults;
      size = did.calls.same.size;
      words = ap (λ (k : Kernel D). k.words) did.same;
      stays = λ stop is. let same : new ≡ old = (did.stopped stop is).0 in ap (λ (k : Kernel D). k.stop) same ∙ is;
      fell = refused_fell fault did;
    }

    -- what the refusal tells
    pub tells_stop : (fault : TidyFault) → TidiesVolume g old new (Err fault) → TellsStop (Some (fault_as fault)) new.stop
    tells_stop (faults.Disk None) did = tt
    tells_stop (faults.Disk (Some moment)) did = did.stops
    tells_stop (faults.Damaged damage moment) did = did.stops
    tells_stop (faults.Stopped moment) did = tt

    pub refused_counts : (fault : TidyFault) → TidiesVolume g old new (Err fault) → first_fault (Some (fault_as fault)) (g.faults old.disk) ≤ g.faults new.disk
    refused_counts (faults.Disk None) did = did.cause.failed.cause
    refused_counts (faults.Disk (Some moment)) did = did.calls.faults
    refused_counts (faults.Damaged damage moment) did = did.calls.faults
    refused_counts (faults.Stopped moment) did = did.calls.faults

    pub refused_rose : (fault : TidyFault) → TidiesVolume g old new (Err fault) → is_fault (Some (fault_as fault)) ≡ true → Rose (g.faults old.disk) (g.faults new.disk)
    refused_rose (faults.Disk None) did is = did.cause.failed.cause
    refused_rose (faults.Disk (Some moment)) did is = did.cause.0.failed.cause
    refused_rose (faults.Damaged damage moment) did is = absurd (cc is)
    refused_rose (faults.Stopped moment) did is = absurd (cc is)

  -- ---- what a call did, by what was left

  no_parts : (o : Option LeftCommit) → IsSome o → parts_left o ≡ 0 → ⊥
  no_parts None some none = cc some
  no_parts (Some l) some none = omega (arith, none)

  module _ (old new : Kernel D) where
    pub step_made : (tidy : Tidy) → 0 < parts_left old.space.left → TidiesVolume g old new (Ok tidy) → TidiesVolume g old new (Ok tidies.Step)
    step_made tidies.Step some did = did
    step_made tidies.Idle some did = let none : parts_left old.space.left ≡ 0 = ap parts_left did.part.0 in absurd (omega (arith, some, none))

    pub idle_made : (tidy : Tidy) → parts_left old.space.left ≡ 0 → TidiesVolume g old new (Ok tidy) → TidiesVolume g old new (Ok tidies.Idle)
    idle_made tidies.Idle none did = did
    idle_made tidies.Step none did = absurd (no_parts old.space.left did.part.0 none)

  -- ---- all of them

  joined_on : (a b c : Kernel D) → GoesOn g a b → GoesOn g b c → GoesOn g a c
  joined_on a b c first second = record {
    later = omega (arith, first.later, second.later);
    size = second.size ∙ first.size;
    words = second.words ∙ first.words;
    stays = λ stop is. second.stays stop (first.stays stop is);
    fell = λ failed. elim (second.fell failed) [
      | inl before ↦ elim (first.fell before) [
        | inl older ↦ inl older
        | inr rose ↦ let later = second.later in inr (omega (arith, rose, later))
      ]
      | inr rose ↦ let later = first.later in inr (omega (arith, rose, later))
    ];
  }

  parts_settle : (a b : Kernel D) → MakesParts g a b → (s : State) → StandsFor g a s → StandsFor g b s × Leaves g a.disk b.disk (ReadsAs s.graph) × (b.stop ≡ a.stop)
  parts_settle a b Begun s stands = (stands, none_left a.disk (ReadsAs s.graph), refl)
  parts_settle a c (More {mid} {new} parts did) s stands =
      let before = parts_settle a mid parts s stands in
      let rests = did.event s before.0 in
      (rests.stands, then g a.disk mid.disk c.disk (ReadsAs s.graph) (ReadsAs s.graph) before.1 rests.keeps.crashes (λ c is. is), did.goes_on ∙ before.2)

  parts_go_on : (a b : Kernel D) → MakesParts g a b → GoesOn g a b
  parts_go_on a b Begun = record { later = omega arith; size = refl; words = refl; stays = λ stop is. is; fell = λ failed. inl failed }
  parts_go_on a c (More {mid} {new} parts did) = joined_on a mid c (parts_go_on a mid parts) (part_goes_on mid c tidies.Step did)

  module _ (old new : Kernel D) (refused : Option CollectFault) (did : TidiesAll g old new refused) where
    ends_settle : (o : Option CollectFault) → refused ≡ o → (s : State) → StandsFor g did.mid s → Settles g did.mid new s
    ends_settle None is s stands = part_settles did.mid new tidies.Idle (subst (λ o. EndsTidying g did.mid new o) is did.ends) s stands
    ends_settle (Some f) is s stands =
        let ends = subst (λ o. EndsTidying g did.mid new o) is did.ends in
        refused_settles did.mid new ends.0 ends.2 s stands

    pub all_settle : (s : State) → StandsFor g old s → Settles g old new s
    all_settle s stands =
        let parts = parts_settle old did.mid did.parts s stands in
        let ends = ends_settle refused refl s parts.0 in
        record {
          after = ends.after;
          stands = ends.stands;
          graph = ends.graph;
          same = ends.same;
          leaves = then g old.disk did.mid.disk new.disk (ReadsAs s.graph) (ReadsAs s.graph) parts.1 ends.leaves (λ c is. is);
          undamaged = λ sound. ends.undamaged (ap damage_in parts.2 ∙ sound);
        }

    ends_go_on : (o : Option CollectFault) → refused ≡ o → GoesOn g did.mid new
    ends_go_on None is = part_goes_on did.mid new tidies.Idle (subst (λ o. EndsTidying g did.mid new o) is did.ends)
    ends_go_on (Some f) is = let ends = subst (λ o. EndsTidying g did.mid new o) is did.ends in refused_goes_on did.mid new ends.0 ends.2

    pub all_go_on : GoesOn g old new
    all_go_on = joined_on old did.mid new (parts_go_on old did.mid did.parts) (ends_go_on refused refl)

    pub all_tell : TellsStop refused new.stop
    all_tell = at refused refl
      where
        at : (o : Option CollectFault) → refused ≡ o → TellsStop o new.stop
        at None is = tt
        at (Some f) is = let ends = subst (λ o. EndsTidying g did.mid new o) is did.ends in subst (λ x. TellsStop (Some x) new.stop) (sym ends.1) (tells_stop did.mid new ends.0 ends.2)

    pub all_counted : first_fault refused (g.faults old.disk) ≤ g.faults new.disk
    all_counted = at refused refl
      where
        first : g.faults old.disk ≤ g.faults did.mid.disk
        first = (parts_go_on old did.mid did.parts).later

        at : (o : Option CollectFault) → refused ≡ o → first_fault o (g.faults old.disk) ≤ g.faults new.disk
        at None is = all_go_on.later
        at (Some f) is =
            let ends = subst (λ o. EndsTidying g did.mid new o) is did.ends in
            let last : first_fault (Some f) (g.faults did.mid.disk) ≤ g.faults new.disk = subst (λ x. first_fault (Some x) (g.faults did.mid.disk) ≤ g.faults new.disk) (sym ends.1) (refused_counts did.mid new ends.0 ends.2) in
            first_fault_more (Some f) (g.faults old.disk) (g.faults did.mid.disk) (g.faults new.disk) first last

    pub all_rose : is_fault refused ≡ true → Rose (g.faults old.disk) (g.faults new.disk)
    all_rose is = at refused refl is
      where
        at : (o : Option CollectFault) → refused ≡ o → is_fault o ≡ true → Rose (g.faults old.disk) (g.faults new.disk)
        at None same is = absurd (cc is)
        at (Some f) same is =
            let ends = subst (λ o. EndsTidying g did.mid new o) same did.ends in
            let first = (parts_go_on old did.mid did.parts).later in
            let last = refused_rose did.mid new ends.0 ends.2 (sym (ap (λ x. is_fault (Some x)) ends.1) ∙ is) in
            omega (arith, first, last)

    -- where nothing refused it nothing is left
    pub all_settled : refused ≡ None → new.space.left ≡ None
    all_settled none =
        let ends : TidiesVolume g did.mid new (Ok tidies.Idle) = subst (λ o. EndsTidying g did.mid new o) none did.ends in
        ap (λ (k : Kernel D). k.space.left) ends.part.1 ∙ ends.part.0
