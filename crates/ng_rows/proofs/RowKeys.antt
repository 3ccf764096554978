-- The keys of rows that stand, as they are read where they are.
use Rattle.std.proofs.Common.{◌≡◌, ◌∙◌, ◌<◌, ℕ, List, get_or, length, map, ap, subst, sym, arith}
use Rattle.std.proofs.lemmas.List.{get_or-map, length-map}
use Rattle.ng_blocks.specs.declared.keys.TrackKey.{TrackKey}
use Rattle.ng_drawing.specs.RolesOf.{role_of}
use Rattle.ng_drawing.specs.declared.roles.Role as code_role
use Rattle.ng_instances.specs.InstanceOf.{body_of}
use Rattle.ng_instances.specs.Instances.{Body}
use Rattle.ng_instances.specs.declared.instances.Body as code
use Rattle.ng_rows.specs.RepeatRows.{key_of, keys_of}

abbrev pub row_keys : List code.Body → List TrackKey
row_keys bs = keys_of (map body_of bs)

abbrev pub row_key : code_role.Role → TrackKey
row_key r = key_of (role_of r)

-- there are as many as there are rows
pub count : (bs : List code.Body) → length (row_keys bs) ≡ length bs
count bs = length-map (map body_of bs) (λ (b : Body). key_of b.role) ∙ length-map bs body_of

pub within : (bs : List code.Body) (i : ℕ) → i < length bs → i < length (row_keys bs)
within bs i lt = subst (λ (n : ℕ). i < n) (sym (count bs)) lt

-- the key at a place is that of the row there
pub key_there : (bs : List code.Body) (i : ℕ) (b : code.Body) (r : code_role.Role) → i < length bs → b ≡ get_or bs i b → r ≡ b.role → row_key r ≡ get_or (row_keys bs) i (row_key r)
key_there bs i b r lt is role =
    let all = map body_of bs in
    let in_all : i < length all = subst (λ (n : ℕ). i < n) (sym (length-map bs body_of)) lt in
    ap row_key role
    ∙ (ap (λ (x : code.Body). row_key x.role) is
    ∙ (ap (λ (x : Body). key_of x.role) (sym (get_or-map body_of bs i b (body_of b) lt))
    ∙ sym (get_or-map (λ (x : Body). key_of x.role) all i (body_of b) (row_key r) in_all)))
