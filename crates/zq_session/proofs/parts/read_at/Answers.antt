use Rattle.std.proofs.Common.{◌≡◌, Some, None, false, refl, sym, ap, subst, ◌∙◌}
use Rattle.link_side.specs.declared.behind.Behind.TheVariants.{Nothing}
use Rattle.zq_session.specs.declared.life.ReadMode.{ReadMode}
use Rattle.zq_session.specs.Doing.{ReadsAtBy}
use Rattle.zq_session.proofs.AtLemmas.{reads_none, reads_puts, reads_holds, reads_drops, wants_as, wants_puts, wants_holds, wants_drops}
use Rattle.zq_session.proofs.parts.read_at.Goals as goal

pub returns-in-Nothing-clause-ok : goal.returns-in-Nothing-clause-ok
returns-in-Nothing-clause-ok g c =
    let k = c.args.side.now.kept in
    let told = g.L.Link.heard c.args.link.now in
    subst (λ (m : ReadMode). ReadsAtBy g.P.Pipes.known m k (record { got = None; put = false }) k told told c.args.pipes.now c.args.out.now c.args.pipes.now c.args.out.now) (sym c.in-Nothing.is)
    (reads_none g.P.Pipes.known k told c.args.pipes.now c.args.out.now)

pub returns-in-Ok-clause-ok : goal.returns-in-Ok-clause-ok
returns-in-Ok-clause-ok g c =
    let k = c.args.side.now.kept in
    let told = g.L.Link.heard c.args.link.now in
    let tells = g.L.Link.heard c.read_only.new.link in
    subst (λ (m : ReadMode). ReadsAtBy g.P.Pipes.known m k (record { got = c.in-Ok.got; put = false }) c.read_only.new.self.kept told tells c.args.pipes.now c.args.out.now c.args.pipes.now c.args.out.now) (sym c.in-Holds.is)
    (reads_holds g.P.Pipes.known k c.read_only.new.self.kept c.in-Ok.got told tells c.args.pipes.now c.args.out.now c.in-Ok.ensures.ok)

pub returns-in-Ok-read_part-clause-ok : goal.returns-in-Ok-read_part-clause-ok
returns-in-Ok-read_part-clause-ok g c =
    let k = c.args.side.now.kept in
    let told = g.L.Link.heard c.args.link.now in
    let tells = g.L.Link.heard c.read_part.new.link in
    let back = Some c.read_part.new.out in
    subst (λ (m : ReadMode). ReadsAtBy g.P.Pipes.known m k c.in-Ok-read_part.done c.read_part.new.self.kept told tells c.args.pipes.now c.args.out.now c.read_part.new.pipes back) (sym c.in-Puts.is)
    (reads_puts g.P.Pipes.known (c.args.side.now.behind ≡ Nothing) k c.read_part.new.self.kept c.in-Ok-read_part.done told tells c.args.pipes.now c.read_part.new.pipes c.args.out.now back c.in-Some.half c.read_part.new.out c.requires.rest c.in-Some.is refl c.in-Ok-read_part.ensures.ok)

pub returns-in-Err-clause-err : goal.returns-in-Err-clause-err
returns-in-Err-clause-err g c = (
  refl,
  refl,
  wants_as ReadMode.Holds c.args.how _ _ _ _ _ c.in-Holds.is (wants_holds (c.args.side.now.behind ≡ Nothing) _ _ _ _ _ c.requires.rest c.in-Err.ensures.err),
)

pub returns-in-Ok-read_only-clause-ok : goal.returns-in-Ok-read_only-clause-ok
returns-in-Ok-read_only-clause-ok g c =
    let k = c.args.side.now.kept in
    let told = g.L.Link.heard c.args.link.now in
    let tells = g.L.Link.heard c.read_only-in-Drops.new.link in
    subst (λ (m : ReadMode). ReadsAtBy g.P.Pipes.known m k (record { got = c.in-Ok-read_only.got; put = false }) c.read_only-in-Drops.new.self.kept told tells c.args.pipes.now c.args.out.now c.args.pipes.now c.args.out.now) (sym c.in-Drops.is)
    (reads_drops g.P.Pipes.known k c.drop_whole.new.self.kept c.read_only-in-Drops.new.self.kept c.in-Ok-read_only.got told tells c.args.pipes.now c.args.out.now c.drop_whole.ensures.drops c.in-Ok-read_only.ensures.ok)

pub returns-in-Err-read_only-clause-err : goal.returns-in-Err-read_only-clause-err
returns-in-Err-read_only-clause-err g c = (
  refl,
  refl,
  wants_as ReadMode.Drops c.args.how _ _ _ _ _ c.in-Drops.is (wants_drops (c.drop_whole.new.self.behind ≡ Nothing) _ _ _ _ _ _ c.drop_whole.ensures.rest c.drop_whole.ensures.drops c.in-Err-read_only.ensures.err),
)

pub returns-in-Err-read_part-clause-err : goal.returns-in-Err-read_part-clause-err
returns-in-Err-read_part-clause-err g c =
    let e = c.in-Err-read_part.ensures.err in (
      e.0,
      ap Some e.1 ∙ sym c.in-Some.is,
      wants_as ReadMode.Puts c.args.how _ _ _ _ _ c.in-Puts.is (wants_puts (c.args.side.now.behind ≡ Nothing) _ _ _ _ _ c.requires.rest e.2),
    )
