use Rattle.std.proofs.Common.{◌≡◌, ◌++◌, Option, ap, ◌∙◌}
use Rattle.std.specs.Prelude.{flat_map}
use Rattle.std.specs.Option.{option_copied}
use Rattle.zq_base.specs.declared.options.Peer.{Peer}
use Rattle.spec_zmtp.specs.DecodedStream.{octets_said}
use Rattle.zq_call.specs.HearText.{said_text, peer_text, message_text, outcome_text}
use Rattle.zq_call.specs.Told.{Told, Tells, past_of, with_written, with_given}
use Rattle.zq_call.proofs.TellsLemmas.{left_of, in_order}
use Rattle.zq_call.proofs.hearing.push_heard.Goals as goal

pub push_all_said-requires : goal.push_all_said-requires
push_all_said-requires c = record { hears = (c.requires.hears.0, c.requires.hears.1) }

pub push_messages-requires : goal.push_messages-requires
push_messages-requires c = record { hears = (_, c.in_ok-push_all_said.ensures.tells c.requires.hears.0 c.requires.hears.1 c.requires.hears.2.1) }

pub returns-clause-text : goal.returns-clause-text
returns-clause-text c = λ t k u.
    let t' : Told = with_written (octets_said t.opts t.means) t in
    let k' : Tells t' c.push_all_said.new.engine = c.in_ok-push_all_said.ensures.tells t k u.1 in
    let k'' : Tells (with_given t.means.messages t') c.push_messages.new.engine = c.in_ok-push_messages.ensures.tells t' k' u.0 in
    let peer : option_copied c.peer.result ≡ t.means.peer = c.peer.ensures.meaning (past_of t') t.means k'.follows k'.current (left_of t' c.push_all_said.new.engine k').meaning in
    let peer_line : c.push_peer.new.out.items ≡ c.push_all_said.new.out.items ++ peer_text t.means.peer =
    c.in_ok-push_peer.ensures ∙ ap (λ (q : Option Peer). c.push_all_said.new.out.items ++ peer_text q) peer in
    in_order c.args.out.now.items c.push_all_said.new.out.items c.push_peer.new.out.items c.push_messages.new.out.items c.push_outcome.new.out.items
    (said_text (octets_said t.opts t.means)) (peer_text t.means.peer) (flat_map message_text t.means.messages) (outcome_text t.means.outcome)
    (c.in_ok-push_all_said.ensures.text t k u.1) peer_line (c.in_ok-push_messages.ensures.all t' k' u.0) (c.in_ok-refused.ensures.text (with_given t.means.messages t') k'')

pub returns-clause-refused : goal.returns-clause-refused
returns-clause-refused c = λ t k u.
    let t' : Told = with_written (octets_said t.opts t.means) t in
    let k' : Tells t' c.push_all_said.new.engine = c.in_ok-push_all_said.ensures.tells t k u.1 in
    c.in_ok-refused.ensures.refused (with_given t.means.messages t') (c.in_ok-push_messages.ensures.tells t' k' u.0)
