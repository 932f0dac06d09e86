-- What `device` and `devices` return, and that a list that has been read up to `p` goes on.
use Rattle.std.proofs.lemmas.Result.{err_from_is_err_and}
use Rattle.plant_text.proofs.Nesting.{list_stop, list_refused, list_more, device_barred, enter, device_open, device_ended, leaf_ended}
use Rattle.plant_text.proofs.devices.+device_devices.Goals as goal

pub device-returns-in_err-check_device : goal.device-returns-in_err-check_device
device-returns-in_err-check_device t c =
    let a = c.args in
    let p = err_from_is_err_and c.from_residual.result c.from_residual.ensures.1 in
    record { reads = rw (p.1, p.2) (device_barred a.text.now a.place a.depth a.top a.n c.requires c.in_err-check_device.ensures) }

pub device-returns-in-Some : goal.device-returns-in-Some
device-returns-in-Some t c =
    let a = c.args in
    let z = c.in_ok-check_device.ensures in
    record { reads = leaf_ended a.text.now a.place a.depth a.top a.n c.requires z c.unwrap_or-out.ensures c.open_device.ensures.opens c.in-Some.ensures }

pub device-returns-in_err-form : goal.device-returns-in_err-form
device-returns-in_err-form t c =
    let a = c.args in
    let p = err_from_is_err_and c.from_residual-in_err-form.result c.from_residual-in_err-form.ensures.1 in
    let z = c.in_ok-check_device.ensures in
    record {
      reads = rw (p.1, p.2) (enter a.text.now a.place a.depth a.top a.n c.requires z c.unwrap_or-out.ensures c.open_device.ensures.opens c.in_err-form.ensures.reads);
    }

pub device-returns-in_err-check_kind : goal.device-returns-in_err-check_kind
device-returns-in_err-check_kind t c =
    let a = c.args in
    let p = err_from_is_err_and c.from_residual-in_err-check_kind.result c.from_residual-in_err-check_kind.ensures.1 in
    let z = c.in_ok-check_device.ensures in
    record {
      reads =
          rw (p.1, p.2)
          (device_open a.text.now a.place a.depth a.top a.n c.requires z c.unwrap_or-out.ensures c.open_device.ensures.opens c.in_ok-form.ensures.reads c.in_err-check_kind.ensures);
    }

pub device-returns : goal.device-returns
device-returns t c =
    let a = c.args in
    let z = c.in_ok-check_device.ensures in
    record {
      reads =
          device_ended a.text.now a.place a.depth a.top a.n c.requires z c.unwrap_or-out.ensures c.open_device.ensures.opens c.in_ok-form.ensures.reads
          c.in_ok-check_kind.ensures c.close_device.ensures.last c.close_device.ensures.after;
    }

pub devices-returns-then-kind-ne-DEVICE : goal.devices-returns-then-kind-ne-DEVICE
devices-returns-then-kind-ne-DEVICE t c = record { reads = list_stop c.loop-room.invariant c.device_at-found.ensures c.if-kind-ne-DEVICE.true }

pub devices-returns-in_err-p : goal.devices-returns-in_err-p
devices-returns-in_err-p t c =
    let p = err_from_is_err_and c.from_residual.result c.from_residual.ensures.1 in
    record { reads = rw (p.1, p.2) (list_refused c.loop-room.invariant c.device_at-found.ensures c.if-kind-ne-DEVICE.false c.in_err-p.ensures.reads) }

pub devices-loop-room-preserved : goal.devices-loop-room-preserved
devices-loop-room-preserved t c = list_more c.loop-room.invariant c.device_at-found.ensures c.if-kind-ne-DEVICE.false c.in_ok-p.ensures.reads
