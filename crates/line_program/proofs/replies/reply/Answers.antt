use Rattle.std.proofs.Common.{Some, None, refl}
use Rattle.line_program.specs.Command.{Insert, Get, Remove, RemovePrefix, PrefixGet, Overwrite, ListRange}
use Rattle.line_program.specs.Content.{content_of}
use Rattle.line_program.specs.Texts.{text_of}
use Rattle.std.specs.Prelude.{codes}
use Rattle.line_program.proofs.Listing.{replied, replied_one}
use Rattle.line_program.proofs.replies.reply.Goals as goal

pub returns-in-Some-Insert : goal.returns-in-Some-Insert
returns-in-Some-Insert g c =
    let (key, is_key, is) = rw c.in-Some-Insert.field-0-is at c.in-Some-Insert.ensures in
    replied_one _ _ _ _ (content_of c.args.map.now) c.args.line.now c.args.outbox.now c.write_line.new.outbox (content_of c.insert-reply.new.map) (Some (Insert key c.in-Some-Insert.value)) (text_of c.insert-reply.result)
    is (c.insert-reply.ensures key is_key) c.write_line.ensures

pub returns-in-Some-Get : goal.returns-in-Some-Get
returns-in-Some-Get g c =
    let (key, is_key, is) = rw c.in-Some-Get.field-0-is at c.in-Some-Get.ensures in
    replied_one _ _ _ _ (content_of c.args.map.now) c.args.line.now c.args.outbox.now c.write_line-in-Some-Get.new.outbox (content_of c.args.map.now) (Some (Get key)) (text_of c.get-reply.result)
    is (c.get-reply.ensures key is_key) c.write_line-in-Some-Get.ensures

pub returns-in-Some-Remove : goal.returns-in-Some-Remove
returns-in-Some-Remove g c =
    let (key, is_key, is) = rw c.in-Some-Remove.field-0-is at c.in-Some-Remove.ensures in
    replied_one _ _ _ _ (content_of c.args.map.now) c.args.line.now c.args.outbox.now c.write_line-in-Some-Remove.new.outbox (content_of c.remove-reply.new.map) (Some (Remove key)) (text_of c.remove-reply.result)
    is (c.remove-reply.ensures key is_key) c.write_line-in-Some-Remove.ensures

pub returns-in-Some-RemovePrefix : goal.returns-in-Some-RemovePrefix
returns-in-Some-RemovePrefix g c =
    let (key, is_key, is) = rw c.in-Some-RemovePrefix.field-0-is at c.in-Some-RemovePrefix.ensures in
    replied_one _ _ _ _ (content_of c.args.map.now) c.args.line.now c.args.outbox.now c.write_line-in-Some-RemovePrefix.new.outbox (content_of c.remove_prefix-reply.new.map) (Some (RemovePrefix key)) (text_of c.remove_prefix-reply.result)
    is (c.remove_prefix-reply.ensures key is_key) c.write_line-in-Some-RemovePrefix.ensures

pub returns-in-Some-PrefixGet : goal.returns-in-Some-PrefixGet
returns-in-Some-PrefixGet g c =
    let (key, is_key, is) = rw c.in-Some-PrefixGet.field-0-is at c.in-Some-PrefixGet.ensures in
    let (text, replies, sent) = c.write_front.ensures key is_key in
    replied_one _ _ _ _ (content_of c.args.map.now) c.args.line.now c.args.outbox.now c.write_front.new.outbox (content_of c.args.map.now) (Some (PrefixGet key)) text
    is replies sent

pub returns-in-Some-Overwrite : goal.returns-in-Some-Overwrite
returns-in-Some-Overwrite g c =
    let (key, is_key, is) = rw c.in-Some-Overwrite.field-0-is at c.in-Some-Overwrite.ensures in
    replied_one _ _ _ _ (content_of c.args.map.now) c.args.line.now c.args.outbox.now c.write_line-in-Some-Overwrite.new.outbox (content_of c.overwrite-reply.new.map) (Some (Overwrite key c.in-Some-Overwrite.value)) (text_of c.overwrite-reply.result)
    is (c.overwrite-reply.ensures key is_key) c.write_line-in-Some-Overwrite.ensures

pub returns-in-None : goal.returns-in-None
returns-in-None g c =
    replied_one _ _ _ _ (content_of c.args.map.now) c.args.line.now c.args.outbox.now c.write_line-in-None.new.outbox (content_of c.args.map.now) None (codes "refused line")
    c.in-None.ensures (refl, refl) c.write_line-in-None.ensures

pub returns-in-Some-Range : goal.returns-in-Some-Range
returns-in-Some-Range g c =
    let (low, high, is_low, is_high, is) = rw c.in-Some-Range.field-0-is at c.in-Some-Range.ensures in
    let (lines, replies, sent) = c.write_range.ensures low high is_low is_high in
    replied _ _ _ _ (content_of c.args.map.now) c.args.line.now c.args.outbox.now c.write_range.new.outbox (content_of c.args.map.now) (Some (ListRange low high)) lines
    is replies sent
