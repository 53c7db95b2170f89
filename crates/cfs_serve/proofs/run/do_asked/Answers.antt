use Rattle.std.proofs.Common.{◌≡◌, ◌*◌, ℕ, true, false, List, [], Option, Some, None, map, refl, ap, rules}
use Rattle.cfs_serve.proofs.Cited.{Inspects, not_begun, Asked, AsksServer, AsksSessions, Cause, Ending, Event, Format, Formats, Ghosts, HasDisk, Intake, MakesVolume, OnDisk, Report, Service, Supply, ground_of, new_ground, option_map, untold}
use Rattle.cfs_serve.proofs.Checking.{inspected}
use Rattle.cfs_serve.proofs.Mended as mending
use Rattle.cfs_serve.proofs.Logs.{some_same}
use Rattle.cfs_serve.specs.Commands.{asked_of, format_of, played_service}
use Rattle.cfs_serve.specs.Inspected.{ChecksVolume, MendsVolume}
use Rattle.cfs_serve.specs.Words.{InMemory, Serves}
use Rattle.cfs_serve.proofs.run.do_asked.Goals as goal

-- a volume is made on the disk that is there
made_on : {D : Type 0} (g : Ghosts D) (asked : Asked) (format : Format) (cause : Cause) (report : Report) (ending : Ending) (trail : List Event) (moments : List ℕ) (old : Option D) (disk new : D)
    → asked ≡ Formats format → report ≡ untold cause → old ≡ Some disk → HasDisk asked (option_map g.blocks old)
    → (g.blocks disk ≡ 64 * format.cylinders → MakesVolume g format cause disk new) → OnDisk g asked report ending trail moments old (Some new)
made_on g asked format cause report ending trail moments old disk new is told there has made =
    rw (is, told, there) (made (some_same (g.blocks disk) (64 * format.cylinders) (rw (is, there) at has)))

pub returns-in-Some-Format-Some-clause-disk : goal.returns-in-Some-Format-Some-clause-disk
returns-in-Some-Format-Some-clause-disk g c =
    let format = format_of c.in-Some-Format-Some.format in
    let is : asked_of c.args.command ≡ Formats format = search rules in
    let there : c.args.disk ≡ Some c.in-Some-Format-Some.disk = search rules in
    let result = c.nothing-in-Some-Format-Some.result in
    made_on g.D.Disk (asked_of c.args.command) format c.make_volume-cause.result result.report result.ending result.trail.events result.trail.moments c.args.disk c.in-Some-Format-Some.disk c.make_volume-cause.new.disk
    is c.nothing-in-Some-Format-Some.ensures.report there c.requires.disk (c.make_volume-cause.ensures.made format refl)

-- a service on a volume in memory has no disk
asks_in_memory : {D : Type 0} (g : Ghosts D) (asked : Asked) (service : Service) (cylinders : ℕ) (disk : Option D) (sources sources_after : List Supply) (sinks sinks_after : List Intake) (report : Report)
    (ending : Ending) (trail : List Event) → asked ≡ Serves service → service.volume ≡ InMemory cylinders → HasDisk asked (option_map g.blocks disk)
    → AsksSessions (new_ground cylinders service.seed) service.seed service.collections (record { disk = None; sources = sources; sinks = sinks }) (record { disk = None; sources = sources_after; sinks = sinks_after }) report ending trail
    → AsksServer asked (ground_of g asked disk) (record { disk = option_map g.faults disk; sources = sources; sinks = sinks }) (record { disk = option_map g.faults disk; sources = sources_after; sinks = sinks_after }) report ending trail
asks_in_memory g asked service cylinders None sources sources_after sinks sinks_after report ending trail is kept has asks = rw (is, kept) asks
asks_in_memory g asked service cylinders (Some d) sources sources_after sinks sinks_after report ending trail is kept has asks = absurd (cc (rw (is, kept) at has))

pub returns-in-Some-Play-default-clause-asks : goal.returns-in-Some-Play-default-clause-asks
returns-in-Some-Play-default-clause-asks g c =
    let service = played_service c.in-Some-Play-default.asked in
    let is : asked_of c.args.command ≡ Serves service = search rules in
    asks_in_memory g.D.Disk (asked_of c.args.command) service c.in-Some-Play-default.asked.cylinders c.args.disk (map g.S.Source.supply c.args.sources.now.items) (map g.S.Source.supply c.play.new.sources.items)
    (map g.K.Sink.intake c.args.sinks.now.items) (map g.K.Sink.intake c.play.new.sinks.items) c.play.result.report c.play.result.ending c.play.result.trail.events is refl c.requires.disk c.play.ensures

-- a volume is checked on the disk that is there
asks_checked : {D : Type 0} (g : Ghosts D) (asked : Asked) (volume : List ℕ) (told report : Report) (ending : Ending) (trail : List Event) (old : Option D) (disk new : D) (sources : List Supply) (sinks : List Intake)
    → asked ≡ Inspects (record { volume = volume; mends = false }) → report ≡ told → old ≡ Some disk → told.counts ≡ None → trail ≡ [] → ending ≡ not_begun → ChecksVolume g told disk new
    → AsksServer asked (ground_of g asked old) (record { disk = option_map g.faults old; sources = sources; sinks = sinks }) (record { disk = option_map g.faults (Some new); sources = sources; sinks = sinks }) report ending trail
asks_checked g asked volume told report ending trail old disk new sources sinks is same there none no_event no_end checks = rw (is, same, there) (record {
  no_event = no_event;
  no_end = no_end;
  sources = refl;
  sinks = refl;
  told = ap (λ n. record told { counts = n }) none;
  found = inspected g disk new told checks;
})

-- and so is one that is mended
asks_mended : {D : Type 0} (g : Ghosts D) (asked : Asked) (volume : List ℕ) (told report : Report) (ending : Ending) (trail : List Event) (old : Option D) (disk new : D) (sources : List Supply) (sinks : List Intake)
    → asked ≡ Inspects (record { volume = volume; mends = true }) → report ≡ told → old ≡ Some disk → told.counts ≡ None → trail ≡ [] → ending ≡ not_begun → MendsVolume g told disk new
    → AsksServer asked (ground_of g asked old) (record { disk = option_map g.faults old; sources = sources; sinks = sinks }) (record { disk = option_map g.faults (Some new); sources = sources; sinks = sinks }) report ending trail
asks_mended g asked volume told report ending trail old disk new sources sinks is same there none no_event no_end mends = rw (is, same, there) (record {
  no_event = no_event;
  no_end = no_end;
  sources = refl;
  sinks = refl;
  told = ap (λ n. record told { counts = n }) none;
  found = mending.inspected g disk new told mends;
})

pub returns-in-Some-Mend-Some-clause-asks : goal.returns-in-Some-Mend-Some-clause-asks
returns-in-Some-Mend-Some-clause-asks g c =
    let volume = c.in-Some-Mend-Some._volume.now in
    let is : asked_of c.args.command ≡ Inspects (record { volume = volume; mends = true }) = search rules in
    let there : c.args.disk ≡ Some c.in-Some-Mend-Some.disk = search rules in
    let result = c.unserved-in-Some-Mend-Some.result in
    asks_mended g.D.Disk (asked_of c.args.command) volume c.mend_volume-told.result result.report result.ending result.trail.events c.args.disk c.in-Some-Mend-Some.disk c.mend_volume-told.new.disk
    (map g.S.Source.supply c.args.sources.now.items) (map g.K.Sink.intake c.args.sinks.now.items) is c.unserved-in-Some-Mend-Some.ensures.report there c.mend_volume-told.ensures.counts
    c.unserved-in-Some-Mend-Some.ensures.trail c.unserved-in-Some-Mend-Some.ensures.ending c.mend_volume-told.ensures.mended

pub returns-in-Some-Check-Some-clause-asks : goal.returns-in-Some-Check-Some-clause-asks
returns-in-Some-Check-Some-clause-asks g c =
    let volume = c.in-Some-Check-Some._volume.now in
    let is : asked_of c.args.command ≡ Inspects (record { volume = volume; mends = false }) = search rules in
    let there : c.args.disk ≡ Some c.in-Some-Check-Some.disk = search rules in
    let result = c.unserved.result in
    asks_checked g.D.Disk (asked_of c.args.command) volume c.check_volume-told.result result.report result.ending result.trail.events c.args.disk c.in-Some-Check-Some.disk c.check_volume-told.new.disk
    (map g.S.Source.supply c.args.sources.now.items) (map g.K.Sink.intake c.args.sinks.now.items) is c.unserved.ensures.report there c.check_volume-told.ensures.counts c.unserved.ensures.trail c.unserved.ensures.ending
    c.check_volume-told.ensures.checked
