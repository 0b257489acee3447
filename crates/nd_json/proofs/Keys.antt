-- The keys of an object, and the items of a list.
use Rattle.std.proofs.Common.{◌≡◌, ℕ, List, [], ◌∷◌, map, refl, ap, Some, None, false, String, Global, string_bytes}
use Rattle.serde_json.specs.View.{members_view, items_of}
use Rattle.serde_json.specs.declared.value.Value.{Value}
use Rattle.serde_json.specs.Data.{Data, null, boolean, number, string, array, object, Members}
use Rattle.serde_json.specs.Find.{as_object}
use Rattle.nd_json.specs.Forms.{keys_of, has_keys, same_texts, listed}

pub keys_of-members_view : (es : List (String Global × Value)) → keys_of (members_view es) ≡ map (λ k. string_bytes k) (map (λ e. e.0) es)
keys_of-members_view [] = refl
keys_of-members_view (e ∷ es) = ap (λ ks. string_bytes e.0 ∷ ks) (keys_of-members_view es)

pub has_keys-object : (d : Data) (ms : Members) (ks : List (List ℕ)) → Some ms ≡ as_object d → has_keys ks d ≡ same_texts (keys_of ms) ks
unfolding has_keys
has_keys-object null ms ks e = cc
has_keys-object (boolean b) ms ks e = cc
has_keys-object (number n) ms ks e = cc
has_keys-object (string s) ms ks e = cc
has_keys-object (array ds) ms ks e = cc
has_keys-object (object ns) ms ks e =
    let same : ms ≡ ns = cc in
    rw same refl

pub listed-items_of : (ds : List Data) → listed (items_of ds) ≡ ds
listed-items_of [] = refl
listed-items_of (d ∷ ds) = ap (λ es. d ∷ es) (listed-items_of ds)

pub has_keys-no_object : (d : Data) (ks : List (List ℕ)) → None ≡ as_object d → false ≡ has_keys ks d
unfolding has_keys
has_keys-no_object null ks e = refl
has_keys-no_object (boolean b) ks e = refl
has_keys-no_object (number n) ks e = refl
has_keys-no_object (string s) ks e = refl
has_keys-no_object (array ds) ks e = refl
has_keys-no_object (object ms) ks e = cc
