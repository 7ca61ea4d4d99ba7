-- A trie that is made of rows has just these.
use Rattle.std.proofs.Common.{◌≡◌, ◌<◌, ◌≤◌, ◌+◌, ◌-◌, ◌*◌, ◌/◌, ◌%◌, ◌^◌, ◌==◌, ◌∙◌, ◌↔◌, ◌⊎◌, ◌++◌, [], ◌∷◌, ℕ, Bool, true, false, cond, List, Option, Some, None, refl, sym, ap, subst, inl, inr, ⊎_elim, arith, length, length-append, append_assoc}
use Rattle.std.specs.Prelude.{slice_get, Contains}
use Rattle.std.proofs.Math.Nat.{div-div-eq-div-mul, mul-div_cancel}
use Rattle.std.proofs.lemmas.Bool.{cases_eq, eqb-true, eqb-false}
use Rattle.std.proofs.lemmas.List.{append-nil, get_or_append_left, get_or_push}
use Rattle.std.proofs.lemmas.Option.{get_or_from_slice_get, slice_get-get_or, slice_get_within}
use Rattle.std.proofs.lemmas.Nat.{pow-add, pow_pos}
use Rattle.scalar_net.specs.declared.network.Network.{Network}
use Rattle.scalar_net.specs.Family.{width}
use Rattle.scalar_net.specs.Network.{IsInside, IsNetworkOf}
use Rattle.prefix_table.specs.declared.nodes.TrieNode.{TrieNode}
use Rattle.prefix_table.specs.Trie.{Tree, leaf, branch, Each, HasRow, IsBelow, IsOf, IsOrderly, IsSame, IsTree, bit_at}
use Rattle.prefix_table.specs.Growing.{AreRows, ArePartsOf, AreThose, AreTries, HasTrie, IsGrown, IsLeast, IsLonger, IsOfThese, IsRow, Leads, begins}
use Rattle.prefix_table.proofs.Fronts.{same_held}
use Rattle.prefix_table.proofs.Parting.{above, leads_all, leads_fewer, none_in, some_same}

-- ---- one bit more

abbrev bit_of : Bool → ℕ
bit_of b = cond b 1 0

halved : (x h : ℕ) → x / 2 ^ (h + 1) ≡ (x / 2 ^ h) / 2
halved x h =
    let split : 2 ^ (h + 1) ≡ 2 ^ h * 2 = pow-add 2 h 1 in
    rw split (sym (div-div-eq-div-mul x (2 ^ h) 2))

half_of : (q lead : ℕ) (bit : Bool) → q / 2 ≡ lead → (q % 2 == 1) ≡ bit → q ≡ 2 * lead + bit_of bit
half_of q lead true half is = let odd : q % 2 ≡ 1 = eqb-true (q % 2) 1 is in omega arith
half_of q lead false half is = let even : q % 2 ≡ 1 → ⊥ = eqb-false (q % 2) 1 is in omega arith

whole_of : (q lead : ℕ) (bit : Bool) → q ≡ 2 * lead + bit_of bit → (q / 2 ≡ lead) × ((q % 2 == 1) ≡ bit)
whole_of q lead true is = (omega (arith, is), let odd : q % 2 ≡ 1 = omega (arith, is) in rw odd refl)
whole_of q lead false is = (omega (arith, is), let even : q % 2 ≡ 0 = omega (arith, is) in rw even refl)

-- a longer row begins with the bit behind
leads_on : (six : Bool) (len lead : ℕ) (bit : Bool) (net : Network) → Leads six len lead net → len < net.len → bit_at net.ip len ≡ bit → Leads six (len + 1) (2 * lead + bit_of bit) net
leads_on six len lead bit net leads longer goes_on =
    let within : net.len ≤ width net.ip.six = net.within in
    let host : width net.ip.six - len ≡ (width net.ip.six - 1 - len) + 1 = omega arith in
    let same : width net.ip.six - (len + 1) ≡ width net.ip.six - 1 - len = omega arith in
    let half : (net.ip.bits / 2 ^ (width net.ip.six - 1 - len)) / 2 ≡ lead = sym (halved net.ip.bits (width net.ip.six - 1 - len)) ∙ ap (λ h. net.ip.bits / 2 ^ h) (sym host) ∙ leads.begins_so in
    record {
      family = leads.family;
      long = omega arith;
      begins_so = ap (λ h. net.ip.bits / 2 ^ h) same ∙ half_of (net.ip.bits / 2 ^ (width net.ip.six - 1 - len)) lead bit half goes_on;
    }

-- what begins so begins with the bits before, and goes on with the bit
leads_back : (six : Bool) (len lead : ℕ) (bit : Bool) (net : Network) → Leads six (len + 1) (2 * lead + bit_of bit) net → Leads six len lead net × (bit_at net.ip len ≡ bit)
leads_back six len lead bit net leads =
    let long : len + 1 ≤ net.len = leads.long in
    let within : net.len ≤ width net.ip.six = net.within in
    let host : width net.ip.six - len ≡ (width net.ip.six - 1 - len) + 1 = omega arith in
    let same : width net.ip.six - (len + 1) ≡ width net.ip.six - 1 - len = omega arith in
    let whole = whole_of (net.ip.bits / 2 ^ (width net.ip.six - 1 - len)) lead bit (ap (λ h. net.ip.bits / 2 ^ h) (sym same) ∙ leads.begins_so) in (
      record {
        family = leads.family;
        long = omega arith;
        begins_so = ap (λ h. net.ip.bits / 2 ^ h) host ∙ halved net.ip.bits (width net.ip.six - 1 - len) ∙ whole.0;
      },
      whole.1,
    )

-- ---- networks at a node and below it

-- the network of a node: it has just so many bits
record IsNode (six : Bool) (len lead : ℕ) (net : Network) : Type 0 where
  leads : Leads six len lead net
  as_long : net.len ≡ len

inside : (six : Bool) (len lead : ℕ) (net lower : Network) → IsNode six len lead net → Leads six len lead lower → IsInside net lower.ip
inside six len lead net lower node leads =
    let family : lower.ip.six ≡ net.ip.six = leads.family ∙ sym node.leads.family in (
      family,
      ap (λ s. lower.ip.bits / 2 ^ (width s - net.len)) (sym family) ∙ ap (λ n. lower.ip.bits / 2 ^ (width lower.ip.six - n)) node.as_long ∙ leads.begins_so
          ∙ sym node.leads.begins_so ∙ ap (λ n. net.ip.bits / 2 ^ (width net.ip.six - n)) (sym node.as_long),
    )

below : (six : Bool) (len lead : ℕ) (bit : Bool) (net lower : Network) → IsNode six len lead net → Leads six (len + 1) (2 * lead + bit_of bit) lower → IsBelow net bit lower
below six len lead bit net lower node leads =
    let back = leads_back six len lead bit lower leads in
    let long : len + 1 ≤ lower.len = leads.long in
    let as_long : net.len ≡ len = node.as_long in
    record {
      longer = omega arith;
      within = inside six len lead net lower node back.0;
      goes_on = ap (λ n. bit_at lower.ip n) node.as_long ∙ back.1;
    }

-- a row that is as long is that network
same_as_node : (six : Bool) (len lead : ℕ) (net row : Network) → IsNode six len lead net → Leads six len lead row → row.len ≡ len → IsSame row net
same_as_node six len lead net row node leads as_long =
    same_held row net row.ip (refl, refl) (inside six len lead net row node leads) (as_long ∙ sym node.as_long)

each_map : (P Q : Network → Type 0) (tree : Tree) → ((net : Network) → P net → Q net) → Each P tree → Each Q tree
each_map P Q leaf map each = tt
each_map P Q (branch net row zero one) map each = (map net each.0, each_map P Q zero map each.1, each_map P Q one map each.2)

each_of : (P : Network → Type 0) (tree : Tree) (net : Network) (i : ℕ) → HasRow net i tree → Each P tree → P net
each_of P leaf net i has each = absurd has
each_of P (branch here row zero one) net i (inl (same, is)) each = subst P same each.0
each_of P (branch here row zero one) net i (inr (inl has)) each = each_of P zero net i has each.1
each_of P (branch here row zero one) net i (inr (inr has)) each = each_of P one net i has each.2

-- nodes that are put behind the others leave a trie as it is
slice_get_more : {A : Type 0} (xs more : List A) (k : ℕ) (x : A) → slice_get xs k ≡ Some x → slice_get (xs ++ more) k ≡ Some x
slice_get_more xs more k x is =
    let within : k < length xs = slice_get_within xs k x is in
    let long = length-append xs more in
    slice_get-get_or (xs ++ more) k x (omega arith) ∙ ap Some (get_or_append_left xs more x k within ∙ get_or_from_slice_get xs k x x is)

pub tree_more : (nodes more : List TrieNode) (at : Option ℕ) (tree : Tree) → IsTree nodes at tree → IsTree (nodes ++ more) at tree
tree_more nodes more at leaf is = is
tree_more nodes more at (branch net row zero one) (k, node, at_is, node_is, net_is, row_is, zeros, ones) =
    (k, node, at_is, slice_get_more nodes more k node node_is, net_is, row_is, tree_more nodes more node.zero zero zeros, tree_more nodes more node.one one ones)

-- ---- the rows of a node and of what is below it

-- what a node is made of: rows that begin alike, the network of these bits, the rows that have just that length, and the
-- tries of the others
record IsMadeOf (rows : List Network) (six : Bool) (len lead : ℕ) (places : List ℕ) (net : Network) (row : Option ℕ) (zeros ones : List ℕ) (zero one : Tree) : Type 0 where
  all : AreRows rows six len lead places
  node : IsNode six len lead net
  parts : ArePartsOf rows len places row zeros ones
  zero_these : IsOfThese rows zeros zero
  one_these : IsOfThese rows ones one
  zero_leads : Each (Leads six (len + 1) (2 * lead + bit_of false)) zero
  one_leads : Each (Leads six (len + 1) (2 * lead + bit_of true)) one

module _ (rows : List Network) (six : Bool) (len lead : ℕ) (places : List ℕ) (net : Network) (row : Option ℕ) (zeros ones : List ℕ) (zero one : Tree)
    (made : IsMadeOf rows six len lead places net row zeros ones zero one) where
  -- the row that stands there, and begins like the others
  leads_at : (i : ℕ) (found : Network) → Contains places i → slice_get rows i ≡ Some found → Leads six len lead found
  leads_at i found has stands = let is = made.all i has in subst (Leads six len lead) (some_same (sym is.stands ∙ stands)) is.leads

  sound_here : (i : ℕ) → row ≡ Some i → Contains places i × (found : Network) × (slice_get rows i ≡ Some found) × IsSame found net
  sound_here i is =
      let least = subst (IsLeast rows len places) is made.parts.least in
      let found = least.1.row in
      (least.0, found, least.1.stands, same_as_node six len lead net found made.node (leads_at i found least.0 least.1.stands) least.1.as_long)

  sound_made : (lower : Network) (i : ℕ) → HasRow lower i (branch net row zero one) → Contains places i × (found : Network) × (slice_get rows i ≡ Some found) × IsSame found lower
  sound_made lower i (inl (same, is)) = subst (λ n. Contains places i × (found : Network) × (slice_get rows i ≡ Some found) × IsSame found n) same (sound_here i is)
  sound_made lower i (inr (inl has)) = let is = made.zero_these.sound lower i has in (((made.parts.zeros_are i).0 is.0).0, is.1, is.2, is.3)
  sound_made lower i (inr (inr has)) = let is = made.one_these.sound lower i has in (((made.parts.ones_are i).0 is.0).0, is.1, is.2, is.3)

  first_here : (i j : ℕ) (other : Network) → row ≡ Some i → Contains places j → slice_get rows j ≡ Some other → IsSame other net → i ≤ j
  first_here i j other is has stands same =
      let least = subst (IsLeast rows len places) is made.parts.least in
      least.2 j has (record { row = other; stands = stands; as_long = same.length ∙ made.node.as_long })

  -- a row of a network below goes on as that does
  longer_as : (bit : Bool) (lower other : Network) (j : ℕ) → Leads six (len + 1) (2 * lead + bit_of bit) lower → slice_get rows j ≡ Some other → IsSame other lower → IsLonger rows len bit j
  longer_as bit lower other j leads stands same =
      let long : len + 1 ≤ lower.len = leads.long in
      let lengths : other.len ≡ lower.len = same.length in
      record {
        row = other;
        stands = stands;
        longer = omega arith;
        goes_on = ap (λ s. other.ip.bits / 2 ^ (width s - 1 - len) % 2 == 1) same.family ∙ ap (λ b. b / 2 ^ (width lower.ip.six - 1 - len) % 2 == 1) same.bits
            ∙ (leads_back six len lead bit lower leads).1;
      }

  first_made : (lower : Network) (i j : ℕ) (other : Network) → HasRow lower i (branch net row zero one) → Contains places j → slice_get rows j ≡ Some other → IsSame other lower → i ≤ j
  first_made lower i j other (inl (net_is, is)) has stands same = first_here i j other is has stands (subst (IsSame other) (sym net_is) same)
  first_made lower i j other (inr (inl there)) has stands same =
      let leads = each_of _ zero lower i there made.zero_leads in
      made.zero_these.first lower i j other there ((made.parts.zeros_are j).1 (has, longer_as false lower other j leads stands same)) stands same
  first_made lower i j other (inr (inr there)) has stands same =
      let leads = each_of _ one lower i there made.one_leads in
      made.one_these.first lower i j other there ((made.parts.ones_are j).1 (has, longer_as true lower other j leads stands same)) stands same

  complete_here : (o : Option ℕ) (j : ℕ) (found : Network) → row ≡ o → Contains places j → slice_get rows j ≡ Some found → found.len ≡ len
      → (lower : Network) × (i : ℕ) × HasRow lower i (branch net row zero one) × IsSame found lower
  complete_here None j found is has stands as_long = absurd (subst (IsLeast rows len places) is made.parts.least j has (record { row = found; stands = stands; as_long = as_long }))
  complete_here (Some i) j found is has stands as_long = (net, i, inl (refl, is), same_as_node six len lead net found made.node (leads_at j found has stands) as_long)

  complete_below : (bit : Bool) (j : ℕ) (found : Network) → bit_at found.ip len ≡ bit → Contains places j → slice_get rows j ≡ Some found → len < found.len
      → (lower : Network) × (i : ℕ) × HasRow lower i (branch net row zero one) × IsSame found lower
  complete_below false j found bit has stands longer =
      let is = made.zero_these.complete j found ((made.parts.zeros_are j).1 (has, record { row = found; stands = stands; longer = longer; goes_on = bit })) stands in
      (is.0, is.1, inr (inl is.2), is.3)
  complete_below true j found bit has stands longer =
      let is = made.one_these.complete j found ((made.parts.ones_are j).1 (has, record { row = found; stands = stands; longer = longer; goes_on = bit })) stands in
      (is.0, is.1, inr (inr is.2), is.3)

  complete_made : (j : ℕ) (found : Network) → Contains places j → slice_get rows j ≡ Some found → (lower : Network) × (i : ℕ) × HasRow lower i (branch net row zero one) × IsSame found lower
  complete_made j found has stands =
      ⊎_elim
      (λ (as_long : found.len ≡ len). complete_here row j found refl has stands as_long)
      (λ (ne : found.len ≡ len → ⊥). complete_below (bit_at found.ip len) j found refl has stands (above len found.len (leads_at j found has stands).long ne))
      (cases_eq found.len len)

  these_made : IsOfThese rows places (branch net row zero one)
  these_made = record { sound = sound_made; first = first_made; complete = complete_made }

  orderly_made : IsOrderly six zero → IsOrderly six one → IsOrderly six (branch net row zero one)
  orderly_made zero_orderly one_orderly = (
    made.node.leads.family,
    each_map _ (IsBelow net false) zero (λ lower leads. below six len lead false net lower made.node leads) made.zero_leads,
    each_map _ (IsBelow net true) one (λ lower leads. below six len lead true net lower made.node leads) made.one_leads,
    zero_orderly,
    one_orderly,
  )

  -- all of it begins as one of the rows does
  leads_made : (place : ℕ) (first : Network) (less lower_lead : ℕ) → Contains places place → slice_get rows place ≡ Some first → less ≤ len → AreRows rows six less lower_lead places
      → Each (Leads six less lower_lead) (branch net row zero one)
  leads_made place first less lower_lead has stands le all =
      let leads = leads_at place first has stands in
      let is = all place has in
      let same : is.row ≡ first = some_same (sym is.stands ∙ stands) in
      let lead_is : begins less first ≡ lower_lead = ap (begins less) (sym same) ∙ is.leads.begins_so in
      let down : (lower : Network) → Leads six len lead lower → Leads six less lower_lead lower =
      λ lower is_led. subst (λ l. Leads six less l lower) lead_is (leads_fewer six first lower len less leads.family le (subst (λ l. Leads six len l lower) (sym leads.begins_so) is_led)) in (
        down net made.node.leads,
        each_map _ _ zero (λ lower is_led. down lower (leads_back six len lead false lower is_led).0) made.zero_leads,
        each_map _ _ one (λ lower is_led. down lower (leads_back six len lead true lower is_led).0) made.one_leads,
      )

-- ---- a node more

-- the rows that go on with a bit begin with one bit more
pub rows_on : (rows : List Network) (six : Bool) (len lead : ℕ) (bit : Bool) (places those : List ℕ) → AreRows rows six len lead places → AreThose rows len places bit those → AreRows rows six (len + 1) (2 * lead + bit_of bit) those
rows_on rows six len lead bit places those all are i has =
    let is = (are i).0 has in
    let row = all i is.0 in
    let same : row.row ≡ is.1.row = some_same (sym row.stands ∙ is.1.stands) in
    record { row = is.1.row; stands = is.1.stands; leads = leads_on six len lead bit is.1.row (subst (Leads six len lead) same row.leads) is.1.longer is.1.goes_on }

pub grown_none : (rows : List Network) (six : Bool) (len : ℕ) (places : List ℕ) (nodes : List TrieNode) → places ≡ [] → IsGrown rows six len places nodes nodes None
grown_none rows six len places nodes none = record {
  tree = leaf;
  more = [];
  appended = sym (append-nil nodes);
  stands = refl;
  orderly = tt;
  these = record {
    sound = λ net i has. absurd has;
    first = λ net i j other has there stands same. absurd has;
    complete = λ j row has stands. none_in j (subst (λ l. Contains l j) none has);
  };
  leads = λ lead all. tt;
}

-- the network of these bits of one that begins so
node_of : (six : Bool) (len : ℕ) (first net : Network) → first.ip.six ≡ six → IsNetworkOf first.ip len net → IsNode six len (begins len first) net
node_of six len first net family is = record {
  leads = record {
    family = is.family ∙ family;
    long = omega (arith, is.length);
    begins_so = ap (λ s. net.ip.bits / 2 ^ (width s - len)) is.family ∙ ap (λ b. b / 2 ^ (width first.ip.six - len)) is.bits ∙ back (first.ip.bits / 2 ^ (width first.ip.six - len)) (width first.ip.six - len);
  };
  as_long = is.length;
}
  where
    back : (x h : ℕ) → x * 2 ^ h / 2 ^ h ≡ x
    back x h = mul-div_cancel x (pow_pos h)

pub grown_node : (rows : List Network) (six : Bool) (len deep place : ℕ) (places zeros ones : List ℕ) (first net : Network) (row zero_at one_at : Option ℕ) (old mid later : List TrieNode)
    → len ≤ deep → Contains places place → slice_get rows place ≡ Some first → AreRows rows six deep (begins deep first) places → IsNetworkOf first.ip deep net
    → ArePartsOf rows deep places row zeros ones → IsGrown rows six (deep + 1) zeros old mid zero_at → IsGrown rows six (deep + 1) ones mid later one_at
    → IsGrown rows six len places old (later ++ record { net = net; row = row; zero = zero_at; one = one_at } ∷ []) (Some (length later))
grown_node rows six len deep place places zeros ones first net row zero_at one_at old mid later le has stands all net_is parts zero one =
    let node = node_of six deep first net (shown_family place) net_is in
    let lead = begins deep first in
    let this : TrieNode = record { net = net; row = row; zero = zero_at; one = one_at } in
    let made : IsMadeOf rows six deep lead places net row zeros ones zero.tree one.tree = record {
      all = all;
      node = node;
      parts = parts;
      zero_these = zero.these;
      one_these = one.these;
      zero_leads = zero.leads (2 * lead + bit_of false) (rows_on rows six deep lead false places zeros all parts.zeros_are);
      one_leads = one.leads (2 * lead + bit_of true) (rows_on rows six deep lead true places ones all parts.ones_are);
    } in
    record {
      tree = branch net row zero.tree one.tree;
      more = (zero.more ++ one.more) ++ this ∷ [];
      appended = ap (λ l. l ++ this ∷ []) (one.appended ∙ ap (λ l. l ++ one.more) zero.appended ∙ append_assoc old zero.more one.more) ∙ append_assoc old (zero.more ++ one.more) (this ∷ []);
      stands = (
        length later,
        this,
        refl,
        slice_get-get_or (later ++ this ∷ []) (length later) this (let long = length-append later (this ∷ []) in omega arith) ∙ ap Some (get_or_push later this this (length later) refl),
        refl,
        refl,
        tree_more later (this ∷ []) zero_at zero.tree (subst (λ l. IsTree l zero_at zero.tree) (sym one.appended) (tree_more mid one.more zero_at zero.tree zero.stands)),
        tree_more later (this ∷ []) one_at one.tree one.stands,
      );
      orderly = orderly_made rows six deep lead places net row zeros ones zero.tree one.tree made zero.orderly one.orderly;
      these = these_made rows six deep lead places net row zeros ones zero.tree one.tree made;
      leads = λ lower_lead all_less. leads_made rows six deep lead places net row zeros ones zero.tree one.tree made place first len lower_lead has stands le all_less;
    }
  where
    shown_family : ℕ → first.ip.six ≡ six
    shown_family i = let is = all place has in subst (λ (n : Network). n.ip.six ≡ six) (some_same (sym is.stands ∙ stands)) is.leads.family

-- ---- the rows of a family

pub family_of : (rows : List Network) (six : Bool) (places : List ℕ) (tree : Tree) → ((i : ℕ) → Contains places i ↔ IsRow rows six 0 0 i) → IsOfThese rows places tree → IsOf rows six tree
family_of rows six places tree are these = record {
  sound = λ net i has. let is = these.sound net i has in (is.1, is.2, is.3);
  first = λ net i j other has stands same.
      let is = these.sound net i has in
      let row = (are i).0 is.0 in
      let shown : row.row ≡ is.1 = some_same (sym row.stands ∙ is.2) in
      let family : other.ip.six ≡ six = same.family ∙ sym is.3.family ∙ ap (λ (n : Network). n.ip.six) (sym shown) ∙ row.leads.family in
      these.first net i j other has ((are j).1 (record { row = other; stands = stands; leads = leads_all six other family })) stands same;
  complete = λ j row stands family. these.complete j row ((are j).1 (record { row = row; stands = stands; leads = leads_all six row family })) stands;
}

pub trie_of : (rows : List Network) (six : Bool) (places : List ℕ) (old new more : List TrieNode) (at : Option ℕ) → ((i : ℕ) → Contains places i ↔ IsRow rows six 0 0 i) → IsGrown rows six 0 places old new at → HasTrie rows (new ++ more) six at
trie_of rows six places old new more at are grown = record {
  tree = grown.tree;
  stands = tree_more new more at grown.tree grown.stands;
  orderly = grown.orderly;
  rows_are = family_of rows six places grown.tree are grown.these;
}

pub nothing_first : {A : Type 0} (xs : List A) → slice_get xs 0 ≡ None → xs ≡ []
nothing_first [] none = refl
nothing_first (x ∷ xs) none = absurd (cc)

-- the recursion goes down
pub falls_on : (width len deep t : ℕ) → len ≤ deep → deep ≤ width → width + 1 - len ≡ t → width + 1 - (deep + 1) < t
falls_on width len deep t le most down = omega arith

pub within_width : (six : Bool) (net : Network) (len : ℕ) → net.ip.six ≡ six → len ≤ net.len → len ≤ width six
within_width six net len family le = let within : net.len ≤ width six = subst (λ s. net.len ≤ width s) family net.within in omega arith

-- the root of a family has the trie of its rows
pub root_of_family : (rows : List Network) (nodes : List TrieNode) (four six root : Option ℕ) (family : Bool) → AreTries rows nodes four six → ((family ≡ true) × (root ≡ six)) ⊎ ((family ≡ false) × (root ≡ four)) → HasTrie rows nodes family root
root_of_family rows nodes four six root family tries (inl (is, at)) = rw (is, at) tries.sixes
root_of_family rows nodes four six root family tries (inr (is, at)) = rw (is, at) tries.fours
