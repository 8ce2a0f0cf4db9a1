-- Worked examples of sockets that send and receive: a PAIR has one peer (zmq_socket(3), "Exclusive pair pattern"), a DEALER's turns for sending and for receiving are apart (RFC 28, "The DEALER Socket Type"), and a ROUTER's peers go by their names ("The ROUTER Socket Type").
use Rattle.std.specs.Prelude.{◌≡◌, List, [], ◌∷◌, false, codes}
use Rattle.spec_pattern.specs.PipeStep.{Commit, Take, EmptyLook}
use Rattle.spec_pattern.specs.TurnList.{End}
use Rattle.spec_pattern.specs.Routing.{Names}
use Rattle.spec_pattern.specs.Pattern.{Pattern, Pair, Dealer, Router, attach}
use Rattle.spec_pattern.specs.PatternCalls.{PatternSends, PatternReceives}
use Rattle.spec_pattern.specs.declared.answers.Rule.TheVariants.{Unroutable}
use Rattle.spec_pattern.specs.declared.answers.SendRefusal.TheVariants as send
use Rattle.spec_pattern.specs.declared.answers.RecvRefusal.TheVariants as recv
use Rattle.spec_pattern.specs.declared.answers.SendAnswer.TheVariants as sent
use Rattle.spec_pattern.specs.declared.answers.RecvAnswer.TheVariants as got
use Rattle.spec_run.specs.TextParts.{pair_nr, end_a, end_b, open_to_all}

-- a PAIR with this peer, and a DEALER with these turns
abbrev pub pair_of : List End → Pattern
pair_of peer = Pair (record { outs = peer; ins = peer })

abbrev pub dealer : List End → List End → Pattern
dealer outs ins = Dealer (record { outs = outs; ins = ins })

-- the peers of a DEALER, in the order of their turns, and once the first of them served
abbrev pub in_order : List End
in_order = end_b 1 ∷ end_b 2 ∷ []

abbrev pub turned_once : List End
turned_once = end_b 2 ∷ end_b 1 ∷ []

-- A PAIR has one peer, and hears nothing of a second one; a DEALER's send leaves its turns for receiving alone.
pub record TwoWays : Type 0 where
  pub pair_sends : PatternSends open_to_all (codes "x" ∷ []) (pair_of (end_b 1 ∷ [])) (Commit (end_b 1) (codes "x" ∷ []) ∷ []) (sent.One (pair_nr 1)) (pair_of (end_b 1 ∷ []))
  pub pair_receives : PatternReceives (pair_of (end_a 1 ∷ [])) (Take (end_b 1) (codes "x" ∷ []) ∷ []) [] (got.Got (pair_nr 1) (codes "x" ∷ [])) (pair_of (end_a 1 ∷ []))
  pub one_peer : attach (end_b 2) [] (pair_of (end_b 1 ∷ [])) ≡ pair_of (end_b 1 ∷ [])
  pub hears_none : PatternReceives (pair_of (end_b 1 ∷ [])) (EmptyLook (end_a 1) ∷ []) [] (got.Refused recv.Again) (pair_of (end_b 1 ∷ []))
  pub deals : PatternSends open_to_all (codes "x" ∷ []) (dealer in_order in_order) (Commit (end_b 1) (codes "x" ∷ []) ∷ []) (sent.One (pair_nr 1)) (dealer turned_once in_order)
  pub is_dealt : PatternReceives (dealer turned_once in_order) (Take (end_a 1) (codes "n" ∷ []) ∷ []) [] (got.Got (pair_nr 1) (codes "n" ∷ [])) (dealer turned_once turned_once)

-- a ROUTER with these peers and names
abbrev pub router : List End → Names → Pattern
router ins names = Router (record { ins = ins; names = names; drawn = 0; mandatory = false })

-- a ROUTER whose one peer is named k
abbrev pub knows_k : Pattern
knows_k = router (end_b 1 ∷ []) (record { name = codes "k"; peer = end_b 1 } ∷ [])

-- A ROUTER puts a peer's name in front and sends to a peer by its name; the second peer of one identity is none; an unknown name is given up, and a name alone is no message.
pub record RouterRules : Type 0 where
  pub first : attach (end_b 1) (codes "k") (router [] []) ≡ knows_k
  pub second : attach (end_b 2) (codes "k") knows_k ≡ knows_k
  pub gets_named : PatternReceives knows_k (Take (end_a 1) (codes "one" ∷ []) ∷ []) [] (got.Got (pair_nr 1) (codes "k" ∷ codes "one" ∷ [])) knows_k
  pub finds_none : PatternReceives knows_k (EmptyLook (end_a 1) ∷ []) [] (got.Refused recv.Again) knows_k
  pub answers_named : PatternSends open_to_all (codes "k" ∷ codes "x" ∷ []) knows_k (Commit (end_b 1) (codes "x" ∷ []) ∷ []) (sent.One (pair_nr 1)) knows_k
  pub unknown : PatternSends open_to_all (codes "j" ∷ codes "x" ∷ []) knows_k [] (sent.Dropped Unroutable) knows_k
  pub no_body : PatternSends open_to_all (codes "k" ∷ []) knows_k [] (sent.Refused send.NoBody) knows_k
