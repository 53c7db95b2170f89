-- A core of which it is known, on any disk, that a failed call is behind its stop, unless a block was damaged.
use Rattle.std.specs.Prelude.{◌≡◌, ℕ, ◌≤◌, true, length, is_some, option_and_then}
use Rattle.cfs_base.specs.Outside.{Rose}
use Rattle.cfs_base.specs.declared.disk.Disk.{Ghosts}
use Rattle.cfs_core.specs.Asked.{Asks}
use Rattle.cfs_core.specs.Kernel.{Kernel}
use Rattle.cfs_core.specs.StandsFor.{StandsFor, core_formed, front_of}
use Rattle.ufs_model.specs.declared.asker.Asker as askers
use Rattle.ufs_model.specs.Need.{one_if}
use Rattle.cfs_serve.specs.Ending.{is_failure}

-- its disk had failed `before` times when the core was handed in
pub record IsWatched {D : Type 0} (g : Ghosts D) (before : ℕ) (k : Kernel D) : Type 0 where
  pub later : before ≤ g.faults k.disk
  pub fell : is_failure k.stop ≡ true → Rose before (g.faults k.disk)

-- a core as one that answers requests
abbrev pub by_core : {D : Type 0} → Ghosts D → askers.Ghosts (Kernel D)
by_core g = record {
  stands = λ k s. StandsFor g k s;
  seed = λ k. k.words.seed;
  words = λ k. k.words.drawn;
  top = λ k. k.root;
  failed = λ k. g.faults k.disk;
  damaged = λ k. one_if (is_some (option_and_then (λ stop. stop.damage) k.stop));
  cylinders = λ k. length k.space.free;
  asked = λ k who request reply new. Asks g k new who request reply;
  counted = λ k s stands. (front_of g k s stands).drawn;
  formed = λ k s stands runs. core_formed g k s stands runs;
}
