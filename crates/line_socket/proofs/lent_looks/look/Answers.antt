use Rattle.std.proofs.Common.{◌∙◌, ◌∷◌, [], length, ap}
use Rattle.spec_pattern.specs.PipeStep.{read_through}
use Rattle.msg_pipe.specs.Told.{front_step}
use Rattle.line_socket.specs.View.{open_view}
use Rattle.line_socket.specs.Owned.{parts, box_of}
use Rattle.line_socket.proofs.MailLemmas.{looks_on, look_makes, leads_on, there_on, box_on}
use Rattle.line_socket.proofs.HereLemmas.{has_whole}
use Rattle.line_socket.proofs.ReadingLemmas.{readings_stay, met_so, may_still}
use Rattle.plain_desk.specs.Lent.{moments_of}
use Rattle.line_socket.proofs.KeepLemmas.{looks_peers}
use Rattle.line_socket.proofs.lent_looks.look.Goals as goal

pub look-requires-clause-held : goal.look-requires-clause-held
look-requires-clause-held g c =
    let l = c.args.lent.now in
    has_whole g.P.Pipes.known l.pipes (g.D.LentDesk.lent l.desk) (length l.since.items) l.socket.core c.requires.agrees c.args.reader c.requires.reads

pub returns-clause-looked : goal.returns-clause-looked
returns-clause-looked g c =
    let K = g.P.Pipes.known in
    let l = c.args.lent.now in
    let m = c.look.new in
    let n = length l.since.items in
    let on = looks_on K c.args.reader.end c.look.result l.pipes m.pipes l.socket.core m.socket c.look.ensures.looks in
    record {
      led = leads_on K (g.D.LentDesk.lent l.desk) n l.pipes m.pipes l.socket.core m.socket (front_step (read_through c.args.reader.end) c.look.result ∷ [])
          (look_makes K c.args.reader.end c.look.result l.pipes m.pipes l.socket.core m.socket c.look.ensures.looks) c.requires.agrees c.look.ensures.others on;
      stays = ap (λ b. open_view b m.socket) (box_on K (g.D.LentDesk.lent l.desk) n l.pipes m.pipes l.socket.core m.socket on) ∙ c.look.ensures.view (box_of (parts l.pipes (g.D.LentDesk.lent l.desk) l.socket.core l.since.items));
    }

pub returns-clause-met : goal.returns-clause-met
returns-clause-met g c = let l = c.args.lent.now in met_so g.P.Pipes.known c.args.reader.end c.look.result l.pipes c.look.new.pipes l.socket.core c.look.new.socket c.look.ensures.looks

pub returns-clause-reading : goal.returns-clause-reading
returns-clause-reading g c = let l = c.args.lent.now in readings_stay g.P.Pipes.known c.args.reader.end c.look.result l.pipes c.look.new.pipes l.socket.core c.look.new.socket c.look.ensures.looks

pub returns-clause-agrees : goal.returns-clause-agrees
returns-clause-agrees g c =
    let K = g.P.Pipes.known in
    let l = c.args.lent.now in
    let m = c.look.new in
    let on = looks_on K c.args.reader.end c.look.result l.pipes m.pipes l.socket.core m.socket c.look.ensures.looks in
    there_on K (g.D.LentDesk.lent l.desk) (length l.since.items) l.pipes m.pipes l.socket.core m.socket c.requires.agrees c.look.ensures.stands on

pub returns-clause-may : goal.returns-clause-may
returns-clause-may g c =
    let l = c.args.lent.now in
    may_still g.P.Pipes.known c.args.reader.end c.look.result l.pipes c.look.new.pipes (g.D.LentDesk.lent l.desk) (length l.since.items) l.socket.core c.look.new.socket c.look.ensures.looks

pub returns-clause-ready : goal.returns-clause-ready
returns-clause-ready g c =
    let K = g.P.Pipes.known in
    let l = c.args.lent.now in
    let m = c.look.new in
    let on = looks_on K c.args.reader.end c.look.result l.pipes m.pipes l.socket.core m.socket c.look.ensures.looks in
    λ was. record {
      whole = c.look.ensures.whole was.whole;
      peers = looks_peers (moments_of (g.D.LentDesk.lent l.desk)) l.socket.core m.socket on (c.look.ensures.view 0) was.peers;
    }
