-- No peer gets a second name.
use Rattle.std.proofs.Common.{◌≢◌, ◌+◌, ℕ, List, [], ◌∷◌, not, All, map, sym, subst}
use Rattle.spec_pattern.specs.PipeStep.{same_pipe}
use Rattle.spec_pattern.specs.TurnList.{End}
use Rattle.spec_pattern.specs.Routing.{drawn_name}
use Rattle.spec_pattern.specs.Pattern.{Pattern, Push, Pull, Pair, Dealer, Req, Rep, Router, Pub, XPub, Sub, XSub, name_answer, with_named, attach, attach_as, detach, pair_answer}
use Rattle.zq_base.specs.declared.attached.Attached.{Attached}
use Rattle.zq_base.specs.declared.attached.Attached.TheVariants.{Yes, BadId, Second}
use Rattle.spec_pattern.specs.Peers.{peer_names, named_peer, HaveOneName}
use Rattle.spec_pattern.specs.PeersLaw.{NamesStayOne}
use Rattle.spec_pattern.proofs.OnceLemmas.{unmapped, once_filter, once_more}

comes : (e : End) (identity : List ℕ) (old : Pattern) → All (λ p. p ≢ e) (map named_peer (peer_names old)) → HaveOneName (peer_names old) → HaveOneName (peer_names (attach e identity old))
comes e identity (Router r) others one = by (name_answer r.names identity)
  where
    named_so : (octets : List ℕ) → HaveOneName (with_named e octets r).names
    named_so [] = once_more named_peer r.names (record { name = drawn_name (r.drawn + 1); peer = e }) (unmapped (λ p. p ≢ e) named_peer r.names others) one
    named_so (o ∷ os) = once_more named_peer r.names (record { name = o ∷ os; peer = e }) (unmapped (λ p. p ≢ e) named_peer r.names others) one

    by : (a : Attached) → HaveOneName (peer_names (attach_as a e identity (Router r)))
    by Yes = named_so identity
    by BadId = one
    by Second = one
comes e identity (Pair turns) others one = by (pair_answer turns.outs)
  where
    by : (a : Attached) → HaveOneName (peer_names (attach_as a e identity (Pair turns)))
    by Yes = one
    by BadId = one
    by Second = one
comes e identity (Push outs) others one = one
comes e identity (Pull ins) others one = one
comes e identity (Dealer turns) others one = one
comes e identity (Req turns duty) others one = one
comes e identity (Rep ins duty) others one = one
comes e identity (Pub p) others one = one
comes e identity (XPub p) others one = one
comes e identity (Sub s) others one = one
comes e identity (XSub s) others one = one

goes : (e : End) (old : Pattern) → HaveOneName (peer_names old) → HaveOneName (peer_names (detach e old))
goes e (Router r) one = once_filter named_peer (λ n. not (same_pipe e n.peer)) r.names one
goes e (Push outs) one = one
goes e (Pull ins) one = one
goes e (Pair turns) one = one
goes e (Dealer turns) one = one
goes e (Req turns duty) one = one
goes e (Rep ins duty) one = one
goes e (Pub p) one = one
goes e (XPub p) one = one
goes e (Sub s) one = one
goes e (XSub s) one = one

pub names_stay_one : NamesStayOne
names_stay_one = record { calls = λ old new kept one. subst HaveOneName (sym kept.names) one; comes = comes; goes = goes }
